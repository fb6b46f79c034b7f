-- `lones::lone_board`: the invariant is the lone numbers of the rows before the row.
use mathlib.Core.Path.{◌≡◌}
use Prim.Native.Nat.{◌+◌}
use native.Mathlib.Omega.{arith}
use Rattle.lones.proofs.Lones.{board_none, board_more, board_few}
use Rattle.lones.proofs.lone_board.Goals as goal

pub loop-row-init : goal.loop-row-init
loop-row-init c = (omega arith, board_none _ _ _ _)

pub lone_row-sum-requires : goal.lone_row-sum-requires
lone_row-sum-requires c = record { mined = c.requires; row_lt_rows = c.loop-row-test.true }

pub overflow_add-sum : goal.overflow_add-sum
overflow_add-sum c = omega (arith, board_few _ _ _ _ (c.loop-row.row + 1) _ (board_more _ _ _ _ _ _ _ c.loop-row.invariant.1 c.lone_row-sum.ensures) (omega arith), c.requires.sized.cells)

pub overflow_step-row : goal.overflow_step-row
overflow_step-row c = omega (arith, c.requires.sized.rows64)

pub loop-row-preserved : goal.loop-row-preserved
loop-row-preserved c = (omega arith, board_more _ _ _ _ _ _ _ c.loop-row.invariant.1 c.lone_row-sum.ensures)

pub returns : goal.returns
returns c = let e : c.loop-row.row ≡ c.args.rows = omega arith in rw e at c.loop-row.invariant.1
