-- `games::play_events` meets its contract. The invariant: what was played and written leads, with the events left, to the whole row and its lines.
use mathlib.Core.Path.{refl, ap, ◌∙◌}
use native.Mathlib.Omega.{arith}
use lib.ListN.{length}
use Rattle.flows.proofs.Flows.{blank_kept}
use Rattle.writing.proofs.Putting.{put_length}
use Rattle.games.proofs.Telling.{unplayed, telling_room, telling_number, telling_on, telling_end, telling_refused, telling_cells, telling_bytes, going_start, going_in, going_played, going_on, going_out}
use Rattle.games.proofs.play_events.Goals as goal

pub loop-event-init : goal.loop-event-init
loop-event-init c = going_start _ _ _ _ _ _ _ _ c.requires.lawful_at (ap (λ i. i.size) c.into_iter-event-iterator.ensures.into_iter_gives ∙ c.chunks_exact-event-items.ensures.size) (ap (λ i. i.rest.now) c.into_iter-event-iterator.ensures.into_iter_gives ∙ c.chunks_exact-event-items.ensures.rest)

pub next_event-o-requires : goal.next_event-o-requires
next_event-o-requires c = let t = c.loop-event.invariant.telling in let n = c.in-Some.ensures.steps.1.1 in let m = c.loop-event.invariant.three in record { lawful_at = t.flowing.lawful; blank = blank_kept c.loop-event.o (unplayed c.args.p) t.flowing.settings t.flowing.same c.requires.blank; at_in_bounds = omega arith }

pub put_play-place-requires : goal.put_play-place-requires
put_play-place-requires c = telling_room c.requires.events_fit c.loop-event.invariant.telling _ refl (going_in c.loop-event.invariant _ _ c.in-Some.ensures.steps.1.0 c.in-Some.ensures.steps.1.1)

pub shape_of-shown-then-o-ge20 : goal.shape_of-shown-then-o-ge20
shape_of-shown-then-o-ge20 c = telling_cells c.requires.events_fit c.loop-event.invariant.telling (going_in c.loop-event.invariant _ _ c.in-Some.ensures.steps.1.0 c.in-Some.ensures.steps.1.1) (going_played c.loop-event.invariant _ _ c.in-Some.ensures.steps.1.0 c.in-Some.ensures.steps.1.1 c.next_event-o.ensures) c.put_play-place.ensures

pub shape_of-bits-then-o-ge20 : goal.shape_of-bits-then-o-ge20
shape_of-bits-then-o-ge20 c = telling_bytes c.requires.events_fit c.loop-event.invariant.telling (going_in c.loop-event.invariant _ _ c.in-Some.ensures.steps.1.0 c.in-Some.ensures.steps.1.1) (going_played c.loop-event.invariant _ _ c.in-Some.ensures.steps.1.0 c.in-Some.ensures.steps.1.1 c.next_event-o.ensures) c.put_play-place.ensures

pub shape_of-work-then-o-ge20 : goal.shape_of-work-then-o-ge20
shape_of-work-then-o-ge20 c = ap length (c.next_event-o.ensures.same ∙ c.loop-event.invariant.telling.flowing.same)

pub shape_of-out-then-o-ge20 : goal.shape_of-out-then-o-ge20
shape_of-out-then-o-ge20 c = put_length c.put_play-place.ensures.put ∙ c.loop-event.invariant.telling.leads.long

pub returns-then-o-ge20 : goal.returns-then-o-ge20
returns-then-o-ge20 c = telling_refused c.args.p c.requires.events_fit c.loop-event.invariant.telling (going_in c.loop-event.invariant _ _ c.in-Some.ensures.steps.1.0 c.in-Some.ensures.steps.1.1) (going_played c.loop-event.invariant _ _ c.in-Some.ensures.steps.1.0 c.in-Some.ensures.steps.1.1 c.next_event-o.ensures) c.put_play-place.ensures c.if-o-ge20.true

pub overflow_add-number : goal.overflow_add-number
overflow_add-number c = let h = telling_number c.requires.events_fit c.loop-event.invariant.telling (going_in c.loop-event.invariant _ _ c.in-Some.ensures.steps.1.0 c.in-Some.ensures.steps.1.1) in omega arith

pub loop-event-preserved : goal.loop-event-preserved
loop-event-preserved c = going_on c.loop-event.invariant _ _ c.in-Some.ensures.steps.1.0 c.in-Some.ensures.steps.1.1 c.in-Some.ensures.steps.0 (telling_on c.requires.events_fit c.loop-event.invariant.telling (going_in c.loop-event.invariant _ _ c.in-Some.ensures.steps.1.0 c.in-Some.ensures.steps.1.1) (going_played c.loop-event.invariant _ _ c.in-Some.ensures.steps.1.0 c.in-Some.ensures.steps.1.1 c.next_event-o.ensures) c.put_play-place.ensures c.if-o-ge20.false)

pub shape_of-shown : goal.shape_of-shown
shape_of-shown c = c.loop-event.invariant.telling.flowing.cells

pub shape_of-bits : goal.shape_of-bits
shape_of-bits c = c.loop-event.invariant.telling.flowing.bytes

pub shape_of-work : goal.shape_of-work
shape_of-work c = ap length c.loop-event.invariant.telling.flowing.same

pub shape_of-out : goal.shape_of-out
shape_of-out c = c.loop-event.invariant.telling.leads.long

pub returns : goal.returns
returns c = telling_end c.args.p c.requires.events_fit c.loop-event.invariant.telling (going_out c.loop-event.invariant c.requires.events_fit.whole c.in-None.ensures.steps.1.0)
