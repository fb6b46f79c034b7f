-- `noflag_player::put_barred` meets its contract.
use mathlib.Core.Path.{refl, ◌∙◌}
use Rattle.noflag_player.proofs.Barring.{barred_refused, barred_none, barred_put}
use Rattle.noflag_player.proofs.put_barred.Goals as goal

pub returns-then-t-ge20 : goal.returns-then-t-ge20
returns-then-t-ge20 c = barred_refused c.requires c.if-t-ge20.true

pub returns-then-events-n : goal.returns-then-events-n
returns-then-events-n c = barred_none c.requires c.if-t-ge20.false c.if-events-n.true

pub returns : goal.returns
returns c = barred_put c.requires c.if-t-ge20.false c.if-events-n.false (c.from.ensures ∙ c.forbids-refusal.ensures) refl c.put_play.ensures
