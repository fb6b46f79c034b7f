-- `boards::safe_cells` meets its contract: the cells before `i` are counted.
use mathlib.Core.Path.{◌≡◌}
use mathlib.Core.Bool.{not}
use Rattle.rules.specs.Words.{count}
use Rattle.rules.specs.Board.{mine_at}
use Rattle.boards.proofs.safe_cells.Given as goal

abbrev pub invariant-loop-i : goal.invariant-loop-i
invariant-loop-i l = l.n ≡ count (λ j. not (mine_at l.mines j)) l.i
