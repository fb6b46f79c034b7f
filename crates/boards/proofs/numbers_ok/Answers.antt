-- `boards::numbers_ok` meets its contract: no number is wrong exactly where the search comes to the end. Assumes nothing.
use mathlib.Core.Path.{ap, ◌∙◌}
use Prim.Native.Nat.{ℕ}
use lib.Dec.{eqb}
use lib.ListN.{length}
use Rattle.rules.specs.Board.{number_ok, numbers_ok}
use Rattle.cells.proofs.Firsts.{first_end}
use Rattle.boards.proofs.numbers_ok.Goals as goal

pub returns : goal.returns
unfolding numbers_ok
returns c = let a = c.args in
    ap (λ (n : ℕ). eqb n (length a.mines.now)) c.number_fault.ensures
    ∙ first_end (number_ok a.mines.now a.rows a.columns) (length a.mines.now)
