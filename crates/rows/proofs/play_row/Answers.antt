-- `rows::play_row` meets its contract.
use mathlib.Core.Path.{ap}
use native.Mathlib.Omega.{arith}
use lib.ListN.{length}
use Rattle.rows.proofs.Records.{row_start, row_next, row_end, row_refused, row_cells, row_bytes, row_blank}
use Rattle.rows.proofs.Runs.{row_run, counted_small}
use Rattle.rows.proofs.play_row.Goals as goal

pub loop-e-init : goal.loop-e-init
loop-e-init c = (row_start _ _ _ c.args.p _ _ _ c.requires.lawful_at, omega arith, c.requires.from_le_to.0)

pub overflow_sub-to : goal.overflow_sub-to
overflow_sub-to c = omega arith

pub overflow_sub-q : goal.overflow_sub-q
overflow_sub-q c = c.loop-e.invariant.0.lawful.few

pub moves-n-requires : goal.moves-n-requires
moves-n-requires c = omega arith

pub count_moves-o-requires : goal.count_moves-o-requires
count_moves-o-requires c = omega arith

pub overflow_add-e : goal.overflow_add-e
overflow_add-e c = omega (arith, c.ranges.to)

pub loop-e-smaller-then-n-ne0 : goal.loop-e-smaller-then-n-ne0
loop-e-smaller-then-n-ne0 c = omega arith

pub loop-e-preserved-then-n-ne0 : goal.loop-e-preserved-then-n-ne0
loop-e-preserved-then-n-ne0 c = (row_run _ _ _ _ _ _ _ _ _ _ c.loop-e.o c.count_moves-o.result c.loop-e.invariant.1 c.if-n-ne0.true c.moves-n.ensures.0 (omega arith) c.count_moves-o.ensures c.loop-e.invariant.0, counted_small c.loop-e.o.position c.moves-n.result c.count_moves-o.result c.count_moves-o.ensures, omega arith)

pub play_record-o-requires : goal.play_record-o-requires
play_record-o-requires c = record { lawful_at = c.loop-e.invariant.0.lawful; blank = row_blank c.loop-e.invariant.0 c.requires.blank }

pub shape_of-shown-then-o-ge20 : goal.shape_of-shown-then-o-ge20
shape_of-shown-then-o-ge20 c = row_cells _ _ _ _ _ _ 0 c.play_record-o.result _ _ _ (row_next _ _ _ _ _ _ c.loop-e.o _ _ _ c.loop-e.invariant.0 c.loop-e.invariant.1 c.play_record-o.result _ _ _ c.play_record-o.ensures) c.requires.lawful_at

pub shape_of-bits-then-o-ge20 : goal.shape_of-bits-then-o-ge20
shape_of-bits-then-o-ge20 c = row_bytes _ _ _ _ _ _ 0 c.play_record-o.result _ _ _ (row_next _ _ _ _ _ _ c.loop-e.o _ _ _ c.loop-e.invariant.0 c.loop-e.invariant.1 c.play_record-o.result _ _ _ c.play_record-o.ensures) c.requires.lawful_at

pub shape_of-work-then-o-ge20 : goal.shape_of-work-then-o-ge20
shape_of-work-then-o-ge20 c = ap length (row_next _ _ _ _ _ _ c.loop-e.o _ _ _ c.loop-e.invariant.0 c.loop-e.invariant.1 c.play_record-o.result _ _ _ c.play_record-o.ensures).lent

pub returns-then-o-ge20 : goal.returns-then-o-ge20
returns-then-o-ge20 c = let w = row_next _ _ _ _ _ _ c.loop-e.o _ _ _ c.loop-e.invariant.0 c.loop-e.invariant.1 c.play_record-o.result _ _ _ c.play_record-o.ensures in record { outcome = row_refused _ _ _ _ _ _ _ c.play_record-o.result _ _ _ w (omega arith) c.if-o-ge20.true; same = w.lent }

pub overflow_add-e-else-n-ne0 : goal.overflow_add-e-else-n-ne0
overflow_add-e-else-n-ne0 c = omega (arith, c.ranges.to)

pub loop-e-smaller : goal.loop-e-smaller
loop-e-smaller c = omega arith

pub loop-e-preserved : goal.loop-e-preserved
loop-e-preserved c = (row_next _ _ _ _ _ _ c.loop-e.o _ _ _ c.loop-e.invariant.0 c.loop-e.invariant.1 c.play_record-o.result _ _ _ c.play_record-o.ensures, c.if-o-ge20.false, omega arith)

pub shape_of-shown : goal.shape_of-shown
shape_of-shown c = row_cells _ _ _ _ _ _ 0 c.loop-e.o _ _ _ c.loop-e.invariant.0 c.requires.lawful_at

pub shape_of-bits : goal.shape_of-bits
shape_of-bits c = row_bytes _ _ _ _ _ _ 0 c.loop-e.o _ _ _ c.loop-e.invariant.0 c.requires.lawful_at

pub shape_of-work : goal.shape_of-work
shape_of-work c = ap length c.loop-e.invariant.0.lent

pub returns : goal.returns
returns c = record { outcome = row_end _ _ _ _ _ _ _ c.loop-e.o _ _ _ c.loop-e.invariant.0 (omega arith); same = c.loop-e.invariant.0.lent }
