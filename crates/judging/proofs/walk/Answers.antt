-- `judging::walk`: the invariant is Walking; the measure, the stack's height and eight for each cell without a mark, falls each turn.
use lib.ListN.{length-set}
use mathlib.Core.Path.{refl, ◌∙◌}
use native.Mathlib.Omega.{arith}
use Rattle.judging.proofs.Walking.{walking_start, walking_asks, walking_turn, walking_done, laid_fits, went_laid}
use Rattle.judging.proofs.walk.Goals as goal

pub overflow_cast-work : goal.overflow_cast-work
overflow_cast-work c = omega (arith, c.requires.walkable.mined.sized.cells)

pub bounds-work-0 : goal.bounds-work-0
bounds-work-0 c = omega (arith, c.requires.walkable.room)

pub loop-top-init : goal.loop-top-init
loop-top-init c = walking_start _ _ _ _ _ _ c.requires.walkable

pub walk_top-requires : goal.walk_top-requires
walk_top-requires c = let whole = walking_asks _ _ _ _ _ _ _ _ _ c.loop-top.invariant (laid_fits _ _ _ c.args.shown.now _ _ c.requires.walkable) c.loop-top-test.true in record { walkable = whole.0; top_nonzero = whole.1.0; top_bound = whole.1.1.0; top_bound_2 = whole.1.1.1 }

pub loop-top-smaller : goal.loop-top-smaller
loop-top-smaller c = (walking_turn _ _ _ _ _ _ _ _ _ c.loop-top.invariant _ _ _ c.loop-top-test.true c.in-Some.ensures c.walk_top.auto.work).1

pub loop-top-preserved : goal.loop-top-preserved
loop-top-preserved c = (walking_turn _ _ _ _ _ _ _ _ _ c.loop-top.invariant _ _ _ c.loop-top-test.true c.in-Some.ensures c.walk_top.auto.work).0

pub shape_of-work : goal.shape_of-work
shape_of-work c = c.loop-top.invariant.long ∙ simp length-set

pub returns : goal.returns
returns c = went_laid _ _ _ _ _ _ c.requires.walkable _ _ (walking_done _ _ _ _ _ _ _ _ _ c.loop-top.invariant (omega arith))

pub returns-in_default : goal.returns-in_default
returns-in_default c = went_laid _ _ _ _ _ _ c.requires.walkable _ _ (walking_done _ _ _ _ _ _ _ _ _ (walking_turn _ _ _ _ _ _ _ _ _ c.loop-top.invariant _ _ _ c.loop-top-test.true c.in_default.ensures c.walk_top.auto.work).0 refl)
