-- `flows::flow` meets its contract.
use mathlib.Core.Path.{ap}
use native.Mathlib.Omega.{arith}
use lib.ListN.{length}
use Rattle.flows.proofs.Flows.{flow_on_lem, flow_refused, flow_same, flow_cells, flow_bytes, event_left, flow_start, flow_end, blank_kept}
use Rattle.flows.proofs.Runs.{flow_run}
use Rattle.flows.proofs.flow.Goals as goal

pub loop-at-init : goal.loop-at-init
loop-at-init c = flow_start _ _ _ _ _ _ c.requires.lawful_at

pub overflow_sub-q : goal.overflow_sub-q
overflow_sub-q c = c.loop-at.invariant.lawful.few

pub moves-n-requires : goal.moves-n-requires
moves-n-requires c = (c.loop-at.invariant.place, c.loop-at.invariant.whole, c.requires.events_len)

pub count_moves-o-requires : goal.count_moves-o-requires
count_moves-o-requires c = omega arith

pub overflow_mul-at : goal.overflow_mul-at
overflow_mul-at c = omega (arith, c.well_formed)

pub overflow_add-at : goal.overflow_add-at
overflow_add-at c = omega (arith, c.well_formed)

pub loop-at-smaller-then-n-ne0 : goal.loop-at-smaller-then-n-ne0
loop-at-smaller-then-n-ne0 c = omega (arith, c.loop-at-test.true, c.moves-n.ensures.0.room, c.if-n-ne0.true)

pub loop-at-preserved-then-n-ne0 : goal.loop-at-preserved-then-n-ne0
loop-at-preserved-then-n-ne0 c = flow_run _ _ _ _ _ _ _ _ _ _ c.requires.events_len _ _ c.loop-at.o _ c.if-n-ne0.true c.moves-n.ensures.0 (omega arith) c.count_moves-o.ensures c.loop-at.invariant

pub next_event-o-requires : goal.next_event-o-requires
next_event-o-requires c = record { lawful_at = c.loop-at.invariant.lawful; blank = blank_kept c.loop-at.o (record { answer = 0; position = c.args.p }) c.loop-at.invariant.settings c.loop-at.invariant.same c.requires.blank; at_in_bounds = event_left _ _ c.requires.events_len c.loop-at.invariant.whole c.loop-at-test.true }

pub shape_of-shown-then-o-ge20 : goal.shape_of-shown-then-o-ge20
shape_of-shown-then-o-ge20 c = flow_cells _ _ _ c.loop-at.o c.next_event-o.result _ _ _ _ _ _ (event_left _ _ c.requires.events_len c.loop-at.invariant.whole c.loop-at-test.true) c.next_event-o.ensures _ _ _ _ _ c.loop-at.invariant

pub shape_of-bits-then-o-ge20 : goal.shape_of-bits-then-o-ge20
shape_of-bits-then-o-ge20 c = flow_bytes _ _ _ c.loop-at.o c.next_event-o.result _ _ _ _ _ _ (event_left _ _ c.requires.events_len c.loop-at.invariant.whole c.loop-at-test.true) c.next_event-o.ensures _ _ _ _ _ c.loop-at.invariant

pub shape_of-work-then-o-ge20 : goal.shape_of-work-then-o-ge20
shape_of-work-then-o-ge20 c = ap length (flow_same _ _ _ c.loop-at.o c.next_event-o.result _ _ _ _ _ _ (event_left _ _ c.requires.events_len c.loop-at.invariant.whole c.loop-at-test.true) c.next_event-o.ensures _ _ _ _ _ c.loop-at.invariant)

pub returns-then-o-ge20 : goal.returns-then-o-ge20
returns-then-o-ge20 c = let l = event_left _ _ c.requires.events_len c.loop-at.invariant.whole c.loop-at-test.true in record { outcome = flow_refused _ _ _ c.loop-at.o c.next_event-o.result _ _ _ _ _ _ l c.next_event-o.ensures _ _ _ _ _ c.loop-at.invariant c.if-o-ge20.true; same = flow_same _ _ _ c.loop-at.o c.next_event-o.result _ _ _ _ _ _ l c.next_event-o.ensures _ _ _ _ _ c.loop-at.invariant }

pub overflow_add-at-else-n-ne0 : goal.overflow_add-at-else-n-ne0
overflow_add-at-else-n-ne0 c = let h = event_left _ _ c.requires.events_len c.loop-at.invariant.whole c.loop-at-test.true in omega (arith, c.well_formed)

pub loop-at-smaller : goal.loop-at-smaller
loop-at-smaller c = omega (arith, c.loop-at-test.true)

pub loop-at-preserved : goal.loop-at-preserved
loop-at-preserved c = flow_on_lem _ _ _ c.loop-at.o c.next_event-o.result _ _ _ _ _ _ (event_left _ _ c.requires.events_len c.loop-at.invariant.whole c.loop-at-test.true) c.next_event-o.ensures _ _ _ _ _ c.loop-at.invariant c.requires.events_len c.if-o-ge20.false

pub shape_of-shown : goal.shape_of-shown
shape_of-shown c = c.loop-at.invariant.cells

pub shape_of-bits : goal.shape_of-bits
shape_of-bits c = c.loop-at.invariant.bytes

pub shape_of-work : goal.shape_of-work
shape_of-work c = ap length c.loop-at.invariant.same

pub returns : goal.returns
returns c = record { outcome = flow_end _ _ _ _ _ _ _ _ c.loop-at.o _ _ _ c.loop-at.invariant c.loop-at-test.false; same = c.loop-at.invariant.same }
