-- `noflag_console::lm_noflag_step` meets its contract.
use Rattle.noflag_console.proofs.Making.{step_flat_lem}
use Rattle.noflag_console.proofs.lm_noflag_step.Goals as goal

pub returns : goal.returns
returns c = step_flat_lem _ _ _ _ _ c.position_for-p.ensures _ _ c.answer_for.ensures _ _ _ _ _ _ _ c.step-a.ensures
