-- `slider::drag_to` meets its contract.
use mathlib.Core.Path.{refl, ap, sym, ◌∙◌}
use Rattle.rules.specs.Refusals.{found_number}
use Rattle.slider.proofs.Dragging.{own_refusal, lent_fit, call_refused, call_accepted, call_dragged}
use Rattle.cells.proofs.Refused.{never_0}
use Rattle.slider.proofs.drag_to.Goals as goal

pub returns-then-b-ne0 : goal.returns-then-b-ne0
returns-then-b-ne0 c = c.refused.ensures _ _ _ _ _ ∙ call_refused c.args.s.now c.args.n c.args.k c.args.slider.kept c.args.mines.now c.args.shown.now c.args.bits.now c.args.work.now c.args.room.now c.read_book-b.result c.read_book-b.ensures (own_refusal _ _ _ _ _ c.if-b-ne0.true) c.if-b-ne0.true

pub returns-in-Err : goal.returns-in-Err
returns-in-Err c = c.refused-in-Err.ensures _ _ _ _ _ ∙ call_refused c.args.s.now c.args.n c.args.k c.args.slider.kept c.args.mines.now c.args.shown.now c.args.bits.now c.args.work.now c.args.room.now c.read_book-b.result c.read_book-b.ensures (c.from.ensures ∙ (sym (ap found_number c.in-Err.is) ∙ c.drag_refusal.ensures)) (λ z. never_0 _ (sym c.from.ensures ∙ z))

pub drag_on-requires : goal.drag_on-requires
drag_on-requires c = let a = call_accepted c.args.s.now c.args.n c.args.k c.args.slider.kept c.args.mines.now c.args.shown.now c.args.bits.now c.args.work.now c.args.room.now c.read_book-b.result c.read_book-b.ensures (sym (ap found_number c.in_default.is) ∙ c.drag_refusal.ensures) refl in record { b_value = (c.read_book-b.ensures, a.book); fit = lent_fit _ _ _ _ _ a.lent; le_k = (a.some, a.there) }

pub returns : goal.returns
returns c = c.drag_on.ensures ∙ call_dragged c.args.s.now c.args.n c.args.k c.args.slider.kept c.args.mines.now c.args.shown.now c.args.bits.now c.args.work.now c.args.room.now c.read_book-b.result c.read_book-b.ensures (sym (ap found_number c.in_default.is) ∙ c.drag_refusal.ensures) refl
