-- `calls::step_game_state` meets its contract.
use mathlib.Core.Path.{refl}
use Rattle.refusals.proofs.Faults.{check_placeable}
use Rattle.calls.proofs.Making.{state_refused, state_unknown, state_lost}
use Rattle.cells.proofs.Refused.{never_0}
use Rattle.calls.proofs.step_game_state.Goals as goal

pub refuse_by-requires : goal.refuse_by-requires
refuse_by-requires c = check_placeable _ _ _ c.in-Err.ensures

pub returns-in-Err : goal.returns-in-Err
returns-in-Err c = state_refused _ _ _ c.in-Err.ensures _ _ (never_0 _) c.refuse_by.ensures

pub returns-then-event-gt1 : goal.returns-then-event-gt1
returns-then-event-gt1 c = state_unknown _ _ _ c.in_default.ensures _ _ refl c.if-event-gt1.true c.refused.ensures

pub returns : goal.returns
returns c = state_lost _ _ _ c.in_default.ensures _ _ _ refl c.if-event-gt1.false c.with_game-q.ensures c.answer.ensures
