-- `flagging::flag_rows` meets its contract. The loop: the rows before this one are done.
use mathlib.Core.Path.{◌≡◌}
use native.Mathlib.Omega.{arith}
use Rattle.flagging.proofs.Scan.{going_asks, going_room, room_start, rows_start, rows_more}
use Rattle.flagging.proofs.flag_rows.Goals as goal

pub loop-row-init : goal.loop-row-init
loop-row-init c = (omega arith, rows_start _ _ _ _ _ _)

pub flag_row-n-requires : goal.flag_row-n-requires
flag_row-n-requires c = record { flaggable = going_asks c.requires (room_start c.requires) c.loop-row.invariant.1; row_lt_rows = c.loop-row-test.true; shown_bound = going_room c.requires (room_start c.requires) c.loop-row.invariant.1 }

pub overflow_step-row : goal.overflow_step-row
overflow_step-row c = omega (arith, c.requires.mined.sized.rows64)

pub loop-row-preserved : goal.loop-row-preserved
loop-row-preserved c = (omega arith, rows_more c.flag_row-n.auto.shown c.flag_row-n.auto.bits _ _ _ _ c.loop-row.invariant.1 c.flag_row-n.ensures)

pub shape_of-shown : goal.shape_of-shown
shape_of-shown c = c.loop-row.invariant.1.board

pub shape_of-bits : goal.shape_of-bits
shape_of-bits c = c.loop-row.invariant.1.bytes

pub returns : goal.returns
returns c = let e : c.loop-row.row ≡ c.args.rows = omega arith in rw e at c.loop-row.invariant.1.flags
