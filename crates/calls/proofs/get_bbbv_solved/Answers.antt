-- `calls::get_bbbv_solved` meets its contract: the sum fits, since the position is lawful.
use mathlib.Core.Path.{refl}
use Rattle.rules.specs.Clicks.{desk}
use Rattle.refusals.proofs.Refusals.{check_solved}
use Rattle.refusals.proofs.Faults.{check_placeable}
use Rattle.calls.proofs.Making.{solved_refused, solved_is}
use Rattle.cells.proofs.Refused.{never_0}
use Rattle.calls.proofs.get_bbbv_solved.Goals as goal

pub refuse_by-requires : goal.refuse_by-requires
refuse_by-requires c = check_placeable _ _ _ c.in-Err.ensures

pub returns-in-Err : goal.returns-in-Err
returns-in-Err c = solved_refused _ _ _ c.in-Err.ensures _ (never_0 _) c.refuse_by.ensures

pub solved-both-requires : goal.solved-both-requires
solved-both-requires c = check_solved _ (desk c.args.p c.args.shown.now c.args.bits.now) _ c.in_default.ensures refl

pub returns : goal.returns
returns c = solved_is _ _ _ c.in_default.ensures _ _ refl c.solved-both.ensures c.answer.ensures
