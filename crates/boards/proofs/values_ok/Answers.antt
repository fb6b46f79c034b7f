-- `boards::values_ok` meets its contract: no value is wrong exactly where the search comes to the end. Assumes nothing.
use mathlib.Core.Path.{ap, ◌∙◌}
use Prim.Native.Nat.{ℕ}
use lib.Dec.{eqb}
use lib.ListN.{length}
use Rattle.rules.specs.Board.{value_ok_at, values_ok}
use Rattle.cells.proofs.Firsts.{first_end}
use Rattle.boards.proofs.values_ok.Goals as goal

pub returns : goal.returns
unfolding values_ok
returns c = let B = c.args.mines.now in
    ap (λ (n : ℕ). eqb n (length B)) c.value_fault.ensures ∙ first_end (value_ok_at B) (length B)
