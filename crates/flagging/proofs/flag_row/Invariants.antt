-- `flagging::flag_row` meets its contract. The loop: the cells of the row before this column are done.
use Prim.Native.Nat.{◌≤◌, ◌-◌}
use Rattle.flagging.specs.Scan.{flag_row}
use Rattle.flagging.proofs.Scan.{Going}
use Rattle.flagging.proofs.flag_row.Given as goal

abbrev pub invariant-loop-column : goal.invariant-loop-column
invariant-loop-column l = (l.column ≤ l.columns) × Going (flag_row l.mines l.rows l.columns l.row l.column) l.past l.initial.shown l.initial.bits l.n l.shown l.bits

abbrev pub decreases-loop-column : goal.decreases-loop-column
decreases-loop-column l = l.columns - l.column
