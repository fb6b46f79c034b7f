-- `slider::refused` meets its contract.
use Rattle.slider.proofs.Dragging.{refused_is}
use Rattle.slider.proofs.refused.Goals as goal

pub returns : goal.returns
returns c = refused_is c.args.b c.args.number c.args.slider c.fresh.ensures
