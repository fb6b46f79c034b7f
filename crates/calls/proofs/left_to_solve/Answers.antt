-- `calls::left_to_solve` meets its contract.
use mathlib.Core.Path.{refl}
use Rattle.refusals.proofs.Refusals.{lent_mined}
use Rattle.refusals.proofs.Faults.{lent_placeable}
use Rattle.calls.proofs.Making.{left_refused, left_answered}
use Rattle.cells.proofs.Refused.{never_0}
use Rattle.calls.proofs.left_to_solve.Goals as goal

pub refuse_by-requires : goal.refuse_by-requires
refuse_by-requires c = lent_placeable _ _ _ _ c.in-Err.ensures

pub returns-in-Err : goal.returns-in-Err
returns-in-Err c = left_refused _ _ _ _ c.in-Err.ensures _ (never_0 _) c.refuse_by.ensures

pub left_on-left-requires : goal.left_on-left-requires
left_on-left-requires c = let whole = lent_mined _ _ _ _ c.in_default.ensures refl in record { mined = whole.0; columns_in_bounds = whole.1 }

pub returns : goal.returns
returns c = left_answered _ _ _ _ c.in_default.ensures _ _ _ refl c.left_on-left.ensures c.answer.ensures
