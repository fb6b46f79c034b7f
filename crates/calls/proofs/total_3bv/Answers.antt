-- `calls::total_3bv` meets its contract: where nothing is shown, all is left to solve.
use mathlib.Core.Path.{refl, sym}
use Rattle.refusals.proofs.Refusals.{total_mined}
use Rattle.refusals.proofs.Faults.{total_placeable}
use Rattle.calls.proofs.Making.{total_refused, total_answered}
use Rattle.cells.proofs.Refused.{never_0}
use Rattle.calls.proofs.total_3bv.Goals as goal

pub found-requires : goal.found-requires
found-requires c = total_placeable _ _ _ _ _ c.in-Err.ensures

pub returns-in-Err : goal.returns-in-Err
returns-in-Err c = total_refused _ _ _ _ _ c.in-Err.ensures _ (never_0 _) c.found.ensures

pub left_on-total-requires : goal.left_on-total-requires
left_on-total-requires c = let whole = total_mined _ _ _ _ (sym c.in_default.ensures) in record { mined = whole.0; columns_in_bounds = whole.1 }

pub returns : goal.returns
returns c = total_answered _ _ _ _ _ c.in_default.ensures _ _ refl c.left_on-total.ensures
