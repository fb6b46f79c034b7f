-- `console::lm_left_to_solve` meets its contract.
use Rattle.console.proofs.Making.{left_flat_lem}
use Rattle.console.proofs.lm_left_to_solve.Goals as goal

pub returns : goal.returns
returns c = left_flat_lem _ _ _ _ _ c.position_for-p.ensures _ _ c.answer_for.ensures _ _ c.left_to_solve-a.ensures
