-- `console::lm_reset` meets its contract.
use Rattle.console.proofs.Making.{reset_flat_lem}
use Rattle.console.proofs.lm_reset.Goals as goal

pub returns : goal.returns
returns c = reset_flat_lem _ _ _ _ _ _ _ _ _ c.from-p.ensures c.reset-a.ensures c.reset_for.ensures
