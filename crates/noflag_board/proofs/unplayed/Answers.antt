-- `noflag_board::unplayed` meets its contract.
use mathlib.Core.Path.{refl}
use Rattle.rules.specs.Clicks.{desk}
use Rattle.refusals.proofs.Faults.{lent_placeable}
use Rattle.noflag_board.proofs.Moding.{moded_placeable}
use Rattle.noflag_board.proofs.Stepping.{lent_found, unplayed_refused, unplayed_barred}
use Rattle.cells.proofs.Refused.{never_0}
use Rattle.noflag_board.proofs.unplayed.Goals as goal

pub refuse_by-requires : goal.refuse_by-requires
refuse_by-requires c = let a = c.args in moded_placeable _ _ _ a.p.settings.mode _ _ c.in-Err.ensures (lent_placeable _ (desk a.p a.shown.now a.bits.now) _ _ c.lent_refusal-found.ensures)

pub returns-in-Err : goal.returns-in-Err
returns-in-Err c = let a = c.args in unplayed_refused a.p a.row a.column _ _ _ _ _ (lent_found a.p a.row a.column _ _ _ _ _ _ c.lent_refusal-found.ensures c.in-Err.ensures) _ (never_0 _) c.refuse_by.ensures

pub returns : goal.returns
returns c = let a = c.args in unplayed_barred a.p a.row a.column _ _ _ _ _ (lent_found a.p a.row a.column _ _ _ _ _ _ c.lent_refusal-found.ensures c.in_default.ensures) _ _ refl c.forbids-barred.ensures c.refused.ensures
