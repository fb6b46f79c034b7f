-- `judging::push_around`: after k neighbours the stack is the definition's after k, and nothing above it has changed.
use mathlib.Core.Path.{◌≡◌}
use Prim.Native.Nat.{◌≤◌, ◌-◌, ◌*◌}
use lib.ListN.{length}
use Rattle.rules.specs.Words.{stack_of}
use Rattle.rules.specs.Grid.{pushed}
use Rattle.rules.specs.Judging.{free_at}
use Rattle.cells.specs.Stack.{Grown}
use Rattle.judging.specs.Parts.{marks_of}
use Rattle.judging.proofs.push_around.Given as goal

abbrev pub invariant-loop-k : goal.invariant-loop-k
invariant-loop-k l = (l.k ≤ 8) × Grown l.initial.work l.top l.k (pushed l.rows l.columns (free_at (marks_of (l.rows * l.columns) l.initial.work)) l.cell l.k (stack_of l.initial.work l.top)) l.work l.t × (length l.work ≡ length l.initial.work)

abbrev pub decreases-loop-k : goal.decreases-loop-k
decreases-loop-k l = 8 - l.k
