-- `sliding::is_right` meets its contract.
use mathlib.Core.Path.{◌∙◌}
use lib.Dec.{eqb}
use Rattle.sliding.proofs.Dragging.{fine_is, right_is, same_is}
use Rattle.sliding.proofs.is_right.Goals as goal

pub returns : goal.returns
returns c = right_is _ _ (eqb c.args.p.events c.args.m) (c.eq-same.ensures ∙ same_is c.args.g c.args.p.settings) (c.is_ok-fine.ensures.value ∙ fine_is _ _ _ c.lawful_refusal.ensures)
