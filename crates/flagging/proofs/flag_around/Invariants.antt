-- `flagging::flag_around` meets its contract. The loop: the first k neighbours are flagged.
use Prim.Native.Nat.{◌≤◌, ◌-◌}
use Rattle.rules.specs.Grid.{cell_of}
use Rattle.flagging.specs.Scan.{flag_around}
use Rattle.flagging.proofs.Scan.{Going}
use Rattle.flagging.proofs.flag_around.Given as goal

abbrev pub invariant-loop-k : goal.invariant-loop-k
invariant-loop-k l = (l.k ≤ 8) × Going (flag_around l.mines l.rows l.columns (cell_of l.columns l.row l.column) l.k) 0 l.initial.shown l.initial.bits l.n l.shown l.bits

abbrev pub decreases-loop-k : goal.decreases-loop-k
decreases-loop-k l = 8 - l.k
