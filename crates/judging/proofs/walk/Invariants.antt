-- `judging::walk`: the invariant is Walking; the measure, the stack's height and eight for each cell without a mark, falls each turn.
use Prim.Native.Nat.{◌+◌, ◌*◌}
use mathlib.Core.Bool.{true}
use Rattle.judging.specs.Parts.{marks_of}
use Rattle.judging.proofs.Turns.{free_count}
use Rattle.judging.proofs.Walking.{Walking}
use Rattle.judging.proofs.walk.Given as goal

abbrev pub invariant-loop-top : goal.invariant-loop-top
invariant-loop-top l = Walking l.mines l.rows l.columns l.shown l.start l.initial.work l.work l.top true

abbrev pub decreases-loop-top : goal.decreases-loop-top
decreases-loop-top l = l.top + 8 * free_count (marks_of (l.rows * l.columns) l.work)
