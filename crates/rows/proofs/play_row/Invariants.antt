-- `rows::play_row` meets its contract.
use Prim.Native.Nat.{◌-◌, ◌<◌, ◌≤◌}
use Rattle.rules.specs.Clicks.{desk}
use Rattle.rows.proofs.Records.{Row}
use Rattle.rows.proofs.play_row.Given as goal

abbrev pub invariant-loop-e : goal.invariant-loop-e
invariant-loop-e l = Row l.mines l.section l.from (desk l.initial.o.position l.initial.shown l.initial.bits) l.initial.work l.e l.o l.shown l.bits l.work × (l.o.answer < 20) × (l.e ≤ l.to)

abbrev pub decreases-loop-e : goal.decreases-loop-e
decreases-loop-e l = l.to - l.e
