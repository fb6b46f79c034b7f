-- `console::lm_check_position` meets its contract.
use Rattle.console.proofs.Making.{position_flat_lem}
use Rattle.console.proofs.lm_check_position.Goals as goal

pub returns : goal.returns
returns c = position_flat_lem _ _ _ _ _ c.position_for-p.ensures _ _ c.from.ensures c.check_position-v.ensures
