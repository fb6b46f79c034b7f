-- `calls::reset` meets its contract.
use Rattle.refusals.proofs.Refusals.{setup_fits}
use Rattle.refusals.proofs.Faults.{setup_placeable}
use Rattle.calls.proofs.Making.{reset_by}
use Rattle.calls.proofs.reset.Goals as goal

pub set_up-requires : goal.set_up-requires
set_up-requires c = record { placeable = setup_placeable _ _ _ _ _ c.setup_refusal-found.ensures; mined = setup_fits _ _ _ _ _ c.setup_refusal-found.ensures }

pub returns : goal.returns
returns c = reset_by _ _ _ _ c.set_up.ensures c.setup_refusal-found.ensures
