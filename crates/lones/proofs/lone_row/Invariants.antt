-- `lones::lone_row`: the invariant is the lone numbers of the row before the column.
use Prim.Native.Nat.{◌≤◌, ◌-◌, ◌*◌}
use Rattle.rules.specs.Judging.{not_open_at}
use Rattle.lones.specs.Counts.{LoneRow}
use Rattle.lones.proofs.lone_row.Given as goal

abbrev pub invariant-loop-column : goal.invariant-loop-column
invariant-loop-column l = (l.column ≤ l.columns) × LoneRow l.mines l.rows l.columns (not_open_at l.shown) (l.row * l.columns) l.column l.sum

abbrev pub decreases-loop-column : goal.decreases-loop-column
decreases-loop-column l = l.columns - l.column
