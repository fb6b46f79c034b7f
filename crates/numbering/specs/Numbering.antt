-- What the passes of numbering do to a board: the mines are placed one by one, then the cells numbered one by one.
use Rattle.std.specs.Prelude.{List, ℕ, zero, suc, set, ℤ, pos, negsuc}
use Rattle.rules.specs.Words.{pick}
use Rattle.rules.specs.Grid.{around}
use Rattle.rules.specs.Board.{mine_at, mine_cell}

-- the first n mines of a list are placed
unfoldable pub placed : ℕ → List ℕ → ℕ → List ℤ → List ℤ
placed C ms zero B = B
placed C ms (suc n) B = set (placed C ms n B) (mine_cell C ms n) (negsuc 0)

-- a cell that is no mine gets its count of mine neighbours
unfoldable pub number_one : ℕ → ℕ → List ℤ → ℕ → List ℤ
number_one R C B i = pick (mine_at B i) B (set B i (pos (around R C (mine_at B) i)))

-- so do the first n cells
unfoldable pub number_first : ℕ → ℕ → ℕ → List ℤ → List ℤ
number_first R C zero B = B
number_first R C (suc n) B = number_one R C (number_first R C n B) n
