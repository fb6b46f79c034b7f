-- `lones::lone_board`: the invariant is the lone numbers of the rows before the row.
use Prim.Native.Nat.{◌≤◌, ◌-◌, ◌*◌}
use Rattle.rules.specs.Judging.{not_open_at}
use Rattle.lones.specs.Counts.{LoneRow}
use Rattle.lones.proofs.lone_board.Given as goal

abbrev pub invariant-loop-row : goal.invariant-loop-row
invariant-loop-row l = (l.row ≤ l.rows) × LoneRow l.mines l.rows l.columns (not_open_at l.shown) 0 (l.row * l.columns) l.sum

abbrev pub decreases-loop-row : goal.decreases-loop-row
decreases-loop-row l = l.rows - l.row
