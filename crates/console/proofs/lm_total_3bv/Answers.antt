-- `console::lm_total_3bv` meets its contract.
use Rattle.console.proofs.Making.{total_flat}
use Rattle.console.proofs.lm_total_3bv.Goals as goal

pub returns : goal.returns
returns c = total_flat _ _ _ _ _ _ _ c.from.ensures c.total_3bv-v.ensures
