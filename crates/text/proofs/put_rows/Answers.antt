-- `text::put_rows` meets its contract. The invariant: the rows not yet taken, written from here on, make the whole text.
use native.Mathlib.Omega.{arith}
use mathlib.Core.Path.{ap, ◌∙◌}
use Rattle.text.proofs.Rows.{going_start, going_row, going_room, going_turn, going_done}
use Rattle.text.proofs.put_rows.Goals as goal

pub loop-row-init : goal.loop-row-init
loop-row-init c =
    going_start _ _ _ _ _ c.requires
    (ap (λ i. i.size) c.into_iter-row-iterator.ensures.into_iter_gives ∙ c.chunks_exact-row-items.ensures.size)
    (ap (λ i. i.rest.now) c.into_iter-row-iterator.ensures.into_iter_gives ∙ c.chunks_exact-row-items.ensures.rest)

pub put_row-o-requires : goal.put_row-o-requires
put_row-o-requires c =
    let s = c.in-Some.ensures.steps in
    (going_row _ _ _ _ _ c.requires c.loop-row.invariant _ _ s.1.0 s.1.1, going_room _ _ _ _ _ c.requires c.loop-row.invariant _ _ s.1.0 s.1.1 (λ i. omega (arith, c.type_inv.shown i)))

pub loop-row-preserved : goal.loop-row-preserved
loop-row-preserved c =
    let s = c.in-Some.ensures.steps in
    going_turn _ _ _ _ _ c.requires c.loop-row.invariant _ _ s.1.0 s.1.1 s.0 c.put_row-o.ensures

pub shape_of-out : goal.shape_of-out
shape_of-out c = c.loop-row.invariant.leads.long

pub returns : goal.returns
returns c = going_done _ _ _ _ _ c.requires c.loop-row.invariant (λ i. omega (arith, c.type_inv.shown i)) c.in-None.ensures.steps.1.0
