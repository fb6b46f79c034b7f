-- `sliding::slide_from` meets its contract.
use mathlib.Core.Path.{sym, ◌∙◌}
use native.Mathlib.Omega.{arith}
use Rattle.sliding.proofs.Dragging.{slot_ends, taken_checkable, taken_fits, taken_lawful, taken_blank, back_lawful, back_blank, drag_right, drag_wrong}
use Rattle.sliding.proofs.slide_from.Goals as goal

pub overflow_mul-at : goal.overflow_mul-at
overflow_mul-at c = let l = slot_ends c.args.mines.now c.args.k c.args.p c.args.shown.now c.args.bits.now c.args.work.now c.requires.ready.0 c.args.n c.args.j c.args.room.now c.requires.startable in omega (arith, c.well_formed)

pub take_desk-q-requires : goal.take_desk-q-requires
take_desk-q-requires c = let l = slot_ends c.args.mines.now c.args.k c.args.p c.args.shown.now c.args.bits.now c.args.work.now c.requires.ready.0 c.args.n c.args.j c.args.room.now c.requires.startable in omega arith

pub is_right-requires : goal.is_right-requires
is_right-requires c = taken_checkable c.args.mines.now c.args.k c.args.p c.args.shown.now c.args.bits.now c.args.work.now c.requires.ready.0 c.args.n c.args.j c.args.room.now c.requires.startable c.take_desk-q.result _ _ c.take_desk-q.ensures

pub glide-o-requires : goal.glide-o-requires
glide-o-requires c = record { lawful_at = taken_lawful c.args.mines.now c.args.k c.args.p c.args.shown.now c.args.bits.now c.args.work.now c.requires.ready.0 c.args.n c.args.j c.args.room.now c.requires.startable c.take_desk-q.result _ _ c.take_desk-q.ensures (sym c.is_right.ensures ∙ c.if-is_right.true); blank = taken_blank c.args.mines.now c.args.k c.args.p c.args.shown.now c.args.bits.now c.args.work.now c.requires.ready.0 c.args.n c.args.j c.args.room.now c.requires.startable c.take_desk-q.result _ _ c.take_desk-q.ensures (sym c.is_right.ensures ∙ c.if-is_right.true); le_k = (c.requires.ready.0.some, (c.requires.startable.before, c.requires.ready.1)) }

pub returns-then-is_right : goal.returns-then-is_right
returns-then-is_right c = record { outcome = drag_right c.args.mines.now c.args.section.now c.args.k c.args.p c.args.shown.now c.args.bits.now c.args.work.now c.requires.ready.0 c.args.n c.args.j c.args.room.now c.requires.startable c.args.kept c.take_desk-q.result _ _ c.take_desk-q.ensures (sym c.is_right.ensures ∙ c.if-is_right.true) c.glide-o.ensures.outcome; same = c.glide-o.ensures.same }

pub fresh_desk-f-requires : goal.fresh_desk-f-requires
fresh_desk-f-requires c = let f = taken_fits c.args.mines.now c.args.k c.args.p c.args.shown.now c.args.bits.now c.args.work.now c.requires.ready.0 c.args.n c.args.j c.args.room.now c.requires.startable c.take_desk-q.result _ _ c.take_desk-q.ensures in record { mined = f.0; shown_len = f.1; bits_len = f.2 }

pub glide-o-requires-2 : goal.glide-o-requires-2
glide-o-requires-2 c = record { lawful_at = back_lawful c.args.mines.now c.args.k c.args.p c.args.shown.now c.args.bits.now c.args.work.now c.requires.ready.0 c.args.n c.args.j c.args.room.now c.requires.startable c.take_desk-q.result _ _ c.take_desk-q.ensures c.fresh_desk-f.result _ _ c.fresh_desk-f.ensures; blank = back_blank c.args.mines.now c.args.k c.args.p c.args.shown.now c.args.bits.now c.args.work.now c.requires.ready.0 c.args.n c.args.j c.args.room.now c.requires.startable c.take_desk-q.result _ _ c.take_desk-q.ensures c.fresh_desk-f.result _ _ c.fresh_desk-f.ensures; le_k = (c.requires.ready.0.some, (omega arith, c.requires.ready.1)) }

pub shape_of-shown : goal.shape_of-shown
shape_of-shown c = c.glide-o-2.auto.shown ∙ (c.fresh_desk-f.auto.shown ∙ c.take_desk-q.auto.shown)

pub shape_of-bits : goal.shape_of-bits
shape_of-bits c = c.glide-o-2.auto.bits ∙ (c.fresh_desk-f.auto.bits ∙ c.take_desk-q.auto.bits)

pub returns : goal.returns
returns c = record { outcome = drag_wrong c.args.mines.now c.args.section.now c.args.k c.args.p c.args.shown.now c.args.bits.now c.args.work.now c.requires.ready.0 c.args.n c.args.j c.args.room.now c.requires.startable c.args.kept c.take_desk-q.result _ _ c.take_desk-q.ensures (sym c.is_right.ensures ∙ c.if-is_right.false) c.fresh_desk-f.result _ _ c.fresh_desk-f.ensures c.glide-o-2.ensures.outcome; same = c.glide-o-2.ensures.same }
