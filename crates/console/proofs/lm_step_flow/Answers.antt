-- `console::lm_step_flow` meets its contract.
use Rattle.console.proofs.Making.{flow_flat_lem}
use Rattle.console.proofs.lm_step_flow.Goals as goal

pub returns : goal.returns
returns c = flow_flat_lem _ _ _ _ _ c.position_for-p.ensures _ _ c.answer_for.ensures _ _ _ _ _ c.step_flow-a.ensures
