-- `calls::setup` meets its contract.
use Rattle.refusals.proofs.Refusals.{setup_fits}
use Rattle.refusals.proofs.Faults.{setup_placeable}
use Rattle.calls.proofs.Making.{fresh_placeable, setup_by_lem}
use Rattle.calls.proofs.setup.Goals as goal

pub set_up-requires : goal.set_up-requires
set_up-requires c = record { placeable = fresh_placeable _ _ c.fresh-p.ensures (setup_placeable _ _ _ _ _ c.setup_refusal-found.ensures); mined = setup_fits _ _ _ _ _ c.setup_refusal-found.ensures }

pub returns : goal.returns
returns c = setup_by_lem _ _ _ _ _ _ _ c.set_up.ensures c.setup_refusal-found.ensures c.fresh-p.ensures
