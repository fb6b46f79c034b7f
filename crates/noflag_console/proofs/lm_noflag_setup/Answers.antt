-- `noflag_console::lm_noflag_setup` meets its contract.
use Rattle.noflag_console.proofs.Making.{setup_flat_lem}
use Rattle.noflag_console.proofs.lm_noflag_setup.Goals as goal

pub returns : goal.returns
returns c = setup_flat_lem _ _ _ _ _ _ _ _ _ _ _ _ _ c.settings_of-s.ensures c.setup-a.ensures c.from.ensures
