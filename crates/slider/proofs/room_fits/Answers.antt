-- `slider::room_fits` meets its contract.
use Rattle.slider.proofs.Dragging.{room_are}
use Rattle.slider.proofs.room_fits.Goals as goal

pub returns : goal.returns
returns c = room_are c.args.g c.args.room c.cell_count-cells.ensures.0
