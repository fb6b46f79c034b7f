-- `flagging::flag_row` meets its contract. The loop: the cells of the row before this column are done.
use mathlib.Core.Path.{◌≡◌}
use native.Mathlib.Omega.{arith}
use Rattle.flagging.proofs.Scan.{going_asks, going_room, row_start, row_more}
use Rattle.flagging.proofs.flag_row.Goals as goal

pub loop-column-init : goal.loop-column-init
loop-column-init c = (omega arith, row_start _ _ _ _ _ _ _)

pub flag_beside-n-requires : goal.flag_beside-n-requires
flag_beside-n-requires c = record { flaggable = going_asks c.requires.flaggable c.requires.shown_bound c.loop-column.invariant.1; row_lt_rows = (c.requires.row_lt_rows, c.loop-column-test.true); shown_bound = going_room c.requires.flaggable c.requires.shown_bound c.loop-column.invariant.1 }

pub overflow_step-column : goal.overflow_step-column
overflow_step-column c = omega (arith, c.requires.flaggable.mined.sized.columns64)

pub loop-column-preserved : goal.loop-column-preserved
loop-column-preserved c = (omega arith, row_more c.flag_beside-n.auto.shown c.flag_beside-n.auto.bits _ _ _ _ _ c.loop-column.invariant.1 c.flag_beside-n.ensures)

pub shape_of-shown : goal.shape_of-shown
shape_of-shown c = c.loop-column.invariant.1.board

pub shape_of-bits : goal.shape_of-bits
shape_of-bits c = c.loop-column.invariant.1.bytes

pub returns : goal.returns
returns c = let e : c.loop-column.column ≡ c.args.columns = omega arith in rw e at c.loop-column.invariant.1.flags
