-- `sliding::slide_to` meets its contract.
use mathlib.Core.Path.{◌∙◌}
use native.Mathlib.Omega.{arith}
use Rattle.sliding.proofs.Dragging.{start_drag, startable, from_drag}
use Rattle.sliding.proofs.slide_to.Goals as goal

pub glide-o-requires : goal.glide-o-requires
glide-o-requires c = record { lawful_at = c.requires.0.lawful; blank = c.requires.0.blank; le_k = (c.requires.0.some, (omega arith, c.requires.1)) }

pub returns-then-j-eq0 : goal.returns-then-j-eq0
returns-then-j-eq0 c = record { outcome = start_drag c.args.mines.now c.args.section.now c.args.k c.args.p c.args.shown.now c.args.bits.now c.args.work.now c.requires.0 c.args.n c.args.kept c.args.room.now c.held-h.ensures c.slot_for-j.ensures c.if-j-eq0.true c.glide-o.ensures.outcome; same = c.glide-o.ensures.same }

pub slide_from-requires : goal.slide_from-requires
slide_from-requires c = record { ready = (c.requires.0, c.requires.1); startable = startable c.args.mines.now c.args.section.now c.args.k c.args.p c.args.shown.now c.args.bits.now c.args.work.now c.requires.0 c.args.n c.args.kept c.args.room.now c.held-h.ensures c.slot_for-j.ensures c.if-j-eq0.false }

pub returns : goal.returns
returns c = record { outcome = c.slide_from.ensures.outcome ∙ from_drag c.args.mines.now c.args.section.now c.args.k c.args.p c.args.shown.now c.args.bits.now c.args.work.now c.requires.0 c.args.n c.args.kept c.args.room.now c.held-h.ensures c.slot_for-j.ensures; same = c.slide_from.ensures.same }
