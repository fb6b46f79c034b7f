-- `slider::open` meets its contract.
use Rattle.slider.proofs.Dragging.{open_is}
use Rattle.slider.proofs.open.Goals as goal

pub returns : goal.returns
returns c = open_is c.args.s.now c.read_book-b.result c.read_book-b.ensures
