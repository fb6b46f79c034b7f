-- `viewing::cells_fault` meets its contract: the cells not yet judged have the fault of the whole.
use mathlib.Core.Path.{◌≡◌}
use Prim.Native.Nat.{◌-◌}
use lib.ListN.{drop}
use Rattle.rules.specs.Picture.{cells_refusal}
use Rattle.viewing.proofs.cells_fault.Given as goal

abbrev pub invariant-loop-i : goal.invariant-loop-i
invariant-loop-i l = cells_refusal (l.n - l._i) (drop l.at l.s) ≡ cells_refusal l.n (drop l.from l.s)
