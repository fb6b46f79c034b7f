-- `console::lm_step_game_state` meets its contract.
use Rattle.console.proofs.Making.{state_flat}
use Rattle.console.proofs.lm_step_game_state.Goals as goal

pub returns : goal.returns
returns c = state_flat _ _ _ _ _ c.position_for-p.ensures _ _ c.answer_for.ensures _ c.step_game_state-a.ensures
