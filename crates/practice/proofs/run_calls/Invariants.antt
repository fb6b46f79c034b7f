-- `practice::run_calls` meets its contract: every place that it comes to is reached, with the score before it. The measure is how many bytes are left.
use Prim.Native.Nat.{◌≤◌, ◌-◌}
use lib.ListN.{length}
use Rattle.practice.specs.Practice.{Reached}
use Rattle.practice.proofs.run_calls.Given as goal

abbrev pub invariant-loop-at : goal.invariant-loop-at
invariant-loop-at g l = (l.at ≤ length l.s) × Reached l.s l.at l.score

abbrev pub decreases-loop-at : goal.decreases-loop-at
decreases-loop-at g l = length l.s - l.at
