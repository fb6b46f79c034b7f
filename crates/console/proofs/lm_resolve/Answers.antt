-- `console::lm_resolve` meets its contract.
use Rattle.console.proofs.Making.{resolve_flat_lem}
use Rattle.console.proofs.lm_resolve.Goals as goal

pub returns : goal.returns
returns c = resolve_flat_lem _ _ _ _ _ c.position_for-p.ensures _ _ c.answer_for.ensures _ _ _ c.resolve-a.ensures
