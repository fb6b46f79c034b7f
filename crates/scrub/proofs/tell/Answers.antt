-- `scrub::tell` meets its contract.
use mathlib.Core.Path.{sym}
use native.Mathlib.Omega.{arith}
use lib.Seq.{length-take-le}
use Rattle.scrub.proofs.Telling.{told_fits, told_whole}
use Rattle.scrub.proofs.tell.Goals as goal

pub slice_bounds-out-end : goal.slice_bounds-out-end
slice_bounds-out-end g c = told_fits c.put_drag-n.ensures (omega arith)

pub slice_bounds-hand-end : goal.slice_bounds-hand-end
slice_bounds-hand-end g c = sym (length-take-le _ _ (told_fits c.put_drag-n.ensures (omega arith)))

pub hand-requires : goal.hand-requires
hand-requires g c = told_whole c.put_drag-n.ensures (omega arith)
