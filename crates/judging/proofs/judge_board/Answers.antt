-- `judging::judge_board`: the invariant is the tally of those not open of the cells below i.
use mathlib.Core.Path.{◌≡◌}
use Prim.Native.Nat.{◌≤◌, ◌*◌}
use native.Mathlib.Omega.{arith}
use Rattle.judging.proofs.Tallying.{board_none, board_more, board_few}
use Rattle.judging.proofs.judge_board.Goals as goal

pub loop-i-init : goal.loop-i-init
loop-i-init c = (omega arith, board_none _ _ _ _ _ c.requires.walkable.room c.requires.zeros)

pub judge_left-sum-requires : goal.judge_left-sum-requires
judge_left-sum-requires c = record { walkable = record { mined = c.requires.walkable.mined; room = rw c.loop-i.invariant.1.long c.requires.walkable.room }; q_bound = c.loop-i-test.true; count_bound = let f : c.loop-i.sum.count ≤ c.loop-i.i = board_few _ _ _ _ _ _ _ _ c.loop-i.invariant.1 in omega (arith, c.loop-i.invariant.0, c.requires.walkable.mined.sized.cells) }

pub overflow_step-i : goal.overflow_step-i
overflow_step-i c = omega (arith, c.requires.walkable.mined.sized.cells)

pub loop-i-preserved : goal.loop-i-preserved
loop-i-preserved c = (omega arith, board_more _ _ _ _ _ _ _ _ _ _ c.loop-i.invariant.1 c.judge_left-sum.ensures c.judge_left-sum.auto.work)

pub shape_of-work : goal.shape_of-work
shape_of-work c = c.loop-i.invariant.1.long

pub returns : goal.returns
returns c = let a = c.args in let e : c.loop-i.i ≡ a.rows * a.columns = omega arith in rw e at c.loop-i.invariant.1
