-- `slider::drag_refusal` meets its contract.
use Rattle.slider.proofs.Dragging.{refusal_21, refusal_70, refusal_71, refusal_72, refusal_none}
use mathlib.Core.Path.{ap}
use mathlib.Core.Bool.{not}
use Rattle.slider.proofs.drag_refusal.Goals as goal

pub returns-then-not-lent_fits : goal.returns-then-not-lent_fits
returns-then-not-lent_fits c = refusal_21 c.args.b c.args.n c.args.k c.args.room _ c.requires c.lent_fits.ensures (ap not c.if-not-lent_fits.true)

pub returns-then-b-n : goal.returns-then-b-n
returns-then-b-n c = refusal_70 c.args.b c.args.n c.args.k c.args.room _ c.requires c.lent_fits.ensures (ap not c.if-not-lent_fits.false) c.if-b-n.true

pub returns-then-k-eq0 : goal.returns-then-k-eq0
returns-then-k-eq0 c = refusal_71 c.args.b c.args.n c.args.k c.args.room _ c.requires c.lent_fits.ensures (ap not c.if-not-lent_fits.false) c.if-b-n.false c.if-k-eq0.true

pub returns-then-not-room_fits : goal.returns-then-not-room_fits
returns-then-not-room_fits c = refusal_72 c.args.b c.args.n c.args.k c.args.room _ c.requires c.lent_fits.ensures (ap not c.if-not-lent_fits.false) c.if-b-n.false c.if-k-eq0.false c.room_fits.ensures (ap not c.if-not-room_fits.true)

pub returns : goal.returns
returns c = refusal_none c.args.b c.args.n c.args.k c.args.room _ c.requires c.lent_fits.ensures (ap not c.if-not-lent_fits.false) c.if-b-n.false c.if-k-eq0.false c.room_fits.ensures (ap not c.if-not-room_fits.false)
