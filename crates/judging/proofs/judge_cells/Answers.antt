-- `judging::judge_cells`: the invariant is the tally of the cells so far.
use mathlib.Core.Path.{◌≡◌}
use Prim.Native.Nat.{◌≤◌}
use native.Mathlib.Omega.{arith}
use lib.ListN.{length}
use Rattle.cells.proofs.Words.{below_at}
use Rattle.judging.proofs.Tallying.{chord_none, chord_more_lem, chord_few}
use Rattle.judging.proofs.judge_cells.Goals as goal

pub loop-cell-init : goal.loop-cell-init
loop-cell-init c = chord_none _ _ _ _ _ _ c.requires.walkable.room c.requires.zeros

pub judge_one-sum-requires : goal.judge_one-sum-requires
judge_one-sum-requires c = record { walkable = record { mined = c.requires.walkable.mined; room = rw c.loop-cell.invariant.long c.requires.walkable.room }; q_bound = rw c.from-q.ensures (below_at _ _ c.requires.below c.loop-cell.cell-index c.loop-cell-test.true); count_bound = let f : c.loop-cell.sum.count ≤ c.loop-cell.cell-index = chord_few _ _ _ _ _ _ _ _ _ c.loop-cell.invariant in omega arith }

pub loop-cell-preserved : goal.loop-cell-preserved
loop-cell-preserved c = chord_more_lem _ _ _ _ _ _ _ _ _ _ _ _ c.from-q.ensures c.loop-cell.invariant c.judge_one-sum.ensures c.judge_one-sum.auto.work

pub returns : goal.returns
returns c = let e : c.loop-cell.cell-index ≡ length c.args.cells.now = omega arith in rw e at c.loop-cell.invariant
