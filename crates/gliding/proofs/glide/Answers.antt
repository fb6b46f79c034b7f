-- `gliding::glide` meets its contract.
use mathlib.Core.Path.{ap}
use native.Mathlib.Omega.{arith}
use lib.ListN.{length}
use Rattle.gliding.proofs.Ways.{way_start, way_next, way_end, way_refused, way_cells, way_bytes, way_blank}
use Rattle.gliding.proofs.glide.Goals as goal

pub loop-g-init : goal.loop-g-init
loop-g-init c = (way_start _ _ _ _ c.args.p _ _ _ c.args.kept _ c.requires.lawful_at, omega arith, c.requires.le_k.1.0)

pub glide_row-g-requires : goal.glide_row-g-requires
glide_row-g-requires c = record { lawful_at = c.loop-g.invariant.0.lawful; blank = way_blank c.loop-g.invariant.0 c.requires.blank; le_k = (c.requires.le_k.0, (c.loop-g-test.true, c.requires.le_k.1.1)) }

pub shape_of-shown-then-g-ge20 : goal.shape_of-shown-then-g-ge20
shape_of-shown-then-g-ge20 c = way_cells _ _ _ _ c.args.to c.requires.le_k.0 _ _ _ c.glide_row-g.result _ _ _ _ (way_next _ _ _ _ c.args.to c.requires.le_k.0 _ _ _ c.loop-g.g _ _ _ _ c.loop-g.invariant.0 c.loop-g.invariant.1 c.glide_row-g.result _ _ _ _ c.glide_row-g.ensures) c.requires.lawful_at

pub shape_of-bits-then-g-ge20 : goal.shape_of-bits-then-g-ge20
shape_of-bits-then-g-ge20 c = way_bytes _ _ _ _ c.args.to c.requires.le_k.0 _ _ _ c.glide_row-g.result _ _ _ _ (way_next _ _ _ _ c.args.to c.requires.le_k.0 _ _ _ c.loop-g.g _ _ _ _ c.loop-g.invariant.0 c.loop-g.invariant.1 c.glide_row-g.result _ _ _ _ c.glide_row-g.ensures) c.requires.lawful_at

pub shape_of-work-then-g-ge20 : goal.shape_of-work-then-g-ge20
shape_of-work-then-g-ge20 c = ap length (way_next _ _ _ _ c.args.to c.requires.le_k.0 _ _ _ c.loop-g.g _ _ _ _ c.loop-g.invariant.0 c.loop-g.invariant.1 c.glide_row-g.result _ _ _ _ c.glide_row-g.ensures).lent

pub shape_of-room-then-g-ge20 : goal.shape_of-room-then-g-ge20
shape_of-room-then-g-ge20 c = (way_next _ _ _ _ c.args.to c.requires.le_k.0 _ _ _ c.loop-g.g _ _ _ _ c.loop-g.invariant.0 c.loop-g.invariant.1 c.glide_row-g.result _ _ _ _ c.glide_row-g.ensures).long

pub returns-then-g-ge20 : goal.returns-then-g-ge20
returns-then-g-ge20 c = let w = way_next _ _ _ _ c.args.to c.requires.le_k.0 _ _ _ c.loop-g.g _ _ _ _ c.loop-g.invariant.0 c.loop-g.invariant.1 c.glide_row-g.result _ _ _ _ c.glide_row-g.ensures in record { outcome = way_refused _ _ _ _ c.args.to c.requires.le_k.0 _ _ _ c.glide_row-g.result _ _ _ _ w c.glide_row-g.ensures.stops.within c.if-g-ge20.true; same = w.lent }

pub loop-g-smaller : goal.loop-g-smaller
loop-g-smaller c = omega arith

pub loop-g-preserved : goal.loop-g-preserved
loop-g-preserved c = (way_next _ _ _ _ c.args.to c.requires.le_k.0 _ _ _ c.loop-g.g _ _ _ _ c.loop-g.invariant.0 c.loop-g.invariant.1 c.glide_row-g.result _ _ _ _ c.glide_row-g.ensures, c.if-g-ge20.false, c.glide_row-g.ensures.stops.within)

pub shape_of-shown : goal.shape_of-shown
shape_of-shown c = way_cells _ _ _ _ c.args.to c.requires.le_k.0 _ _ _ c.loop-g.g _ _ _ _ c.loop-g.invariant.0 c.requires.lawful_at

pub shape_of-bits : goal.shape_of-bits
shape_of-bits c = way_bytes _ _ _ _ c.args.to c.requires.le_k.0 _ _ _ c.loop-g.g _ _ _ _ c.loop-g.invariant.0 c.requires.lawful_at

pub shape_of-work : goal.shape_of-work
shape_of-work c = ap length c.loop-g.invariant.0.lent

pub shape_of-room : goal.shape_of-room
shape_of-room c = c.loop-g.invariant.0.long

pub returns : goal.returns
returns c = record { outcome = way_end _ _ _ _ c.args.to c.requires.le_k.0 _ _ _ c.loop-g.g _ _ _ _ c.loop-g.invariant.0 (omega arith); same = c.loop-g.invariant.0.lent }
