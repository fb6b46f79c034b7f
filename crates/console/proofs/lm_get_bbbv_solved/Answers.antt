-- `console::lm_get_bbbv_solved` meets its contract.
use Rattle.console.proofs.Making.{solved_flat}
use Rattle.console.proofs.lm_get_bbbv_solved.Goals as goal

pub returns : goal.returns
returns c = solved_flat _ _ _ _ _ c.position_for-p.ensures _ _ c.answer_for.ensures c.get_bbbv_solved-a.ensures
