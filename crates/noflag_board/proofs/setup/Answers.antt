-- `noflag_board::setup` meets its contract: in mode 0 it is the board's, in any other it is refused.
use mathlib.Core.Path.{◌∙◌, sym}
use Rattle.refusals.proofs.Faults.{setup_placeable}
use Rattle.calls.proofs.Making.{fresh_placeable}
use Rattle.noflag.proofs.Calls.{setup_same}
use Rattle.noflag_board.proofs.Moding.{moded_placeable, setup_other}
use Rattle.noflag_board.proofs.setup.Goals as goal

pub returns-then-settings-eq0 : goal.returns-then-settings-eq0
returns-then-settings-eq0 c = c.setup.ensures ∙ sym (setup_same _ _ _ _ c.if-settings-eq0.true)

pub refuse-requires : goal.refuse-requires
refuse-requires c = fresh_placeable _ _ c.fresh-p.ensures (moded_placeable _ _ _ c.args.settings.mode _ _ (c.number_of-n.ensures ∙ c.moded.ensures) (setup_placeable _ _ _ _ _ c.setup_refusal-found.ensures))

pub returns : goal.returns
returns c = setup_other _ _ _ _ _ _ _ _ c.if-settings-eq0.false c.setup_refusal-found.ensures (c.number_of-n.ensures ∙ c.moded.ensures) c.fresh-p.ensures c.refuse.ensures
