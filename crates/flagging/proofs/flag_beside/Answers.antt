-- `flagging::flag_beside` meets its contract: a ripe cell, or another.
use mathlib.Core.Path.{sym, ◌∙◌}
use Rattle.flagging.proofs.Scan.{beside_ripe, beside_unripe}
use Rattle.flagging.proofs.flag_beside.Goals as goal

pub returns-then-ripe : goal.returns-then-ripe
returns-then-ripe c = beside_ripe _ _ _ _ _ _ _ (sym c.ripe.ensures ∙ c.if-ripe.true) c.flag_around-n.ensures

pub returns : goal.returns
returns c = beside_unripe _ _ _ _ _ _ _ (sym c.ripe.ensures ∙ c.if-ripe.false)
