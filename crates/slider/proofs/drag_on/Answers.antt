-- `slider::drag_on` meets its contract.
use Rattle.slider.proofs.Dragging.{begun_ready, events_there, drag_done}
use Rattle.slider.proofs.drag_on.Goals as goal

pub slide_to-o-requires : goal.slide_to-o-requires
slide_to-o-requires c = (begun_ready c.args.s.now c.args.b c.requires.b_value.0 c.requires.b_value.1 c.args.n c.args.k c.requires.le_k.0 c.begin-p.ensures, events_there c.args.s.now c.args.b c.requires.b_value.0 c.requires.b_value.1 c.args.n c.args.k c.requires.le_k.0 c.begin-p.ensures c.events-events.ensures c.args.slider.kept c.args.room.now c.requires.le_k.1)

pub returns : goal.returns
returns c = drag_done c.args.s.now c.args.b c.requires.b_value.0 c.requires.b_value.1 c.args.n c.args.k c.requires.le_k.0 c.begin-p.ensures c.events-events.ensures c.args.slider.kept c.args.room.now c.slide_to-o.result c.slide_to-o.ensures c.flow_number.ensures
