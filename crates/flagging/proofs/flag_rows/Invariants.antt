-- `flagging::flag_rows` meets its contract. The loop: the rows before this one are done.
use Prim.Native.Nat.{◌≤◌, ◌-◌}
use Rattle.flagging.specs.Scan.{flag_rows}
use Rattle.flagging.proofs.Scan.{Going}
use Rattle.flagging.proofs.flag_rows.Given as goal

abbrev pub invariant-loop-row : goal.invariant-loop-row
invariant-loop-row l = (l.row ≤ l.rows) × Going (flag_rows l.mines l.rows l.columns l.row) 0 l.initial.shown l.initial.bits l.n l.shown l.bits

abbrev pub decreases-loop-row : goal.decreases-loop-row
decreases-loop-row l = l.rows - l.row
