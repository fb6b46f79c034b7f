-- `judging::judge_board`: the invariant is the tally of those not open of the cells below i.
use Prim.Native.Nat.{◌≤◌, ◌-◌}
use mathlib.Core.List.{[]}
use Rattle.rules.specs.Grid.{cells_if}
use Rattle.rules.specs.Judging.{not_open_at}
use Rattle.judging.specs.Parts.{Tallied}
use Rattle.judging.proofs.judge_board.Given as goal

abbrev pub invariant-loop-i : goal.invariant-loop-i
invariant-loop-i l = (l.i ≤ l.n) × Tallied l.mines l.rows l.columns [] (cells_if (not_open_at l.shown) l.i) l.initial.work l.work l.sum

abbrev pub decreases-loop-i : goal.decreases-loop-i
decreases-loop-i l = l.n - l.i
