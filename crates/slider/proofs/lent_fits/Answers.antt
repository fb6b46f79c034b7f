-- `slider::lent_fits` meets its contract.
use Rattle.slider.proofs.Dragging.{lent_are}
use Rattle.slider.proofs.lent_fits.Goals as goal

pub returns : goal.returns
returns c = lent_are c.args.g c.args.mines.now c.args.shown.now c.args.bits.now c.args.work.now c.cell_count-cells.ensures.0
