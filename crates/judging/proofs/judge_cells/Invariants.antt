-- `judging::judge_cells`: the invariant is the tally of the cells so far.
use Rattle.rules.specs.Words.{stack_of}
use Rattle.judging.specs.Parts.{Tallied}
use Rattle.judging.proofs.judge_cells.Given as goal

abbrev pub invariant-loop-cell : goal.invariant-loop-cell
invariant-loop-cell l = Tallied l.mines l.rows l.columns l.shown (stack_of l.cells l.cell-index) l.initial.work l.work l.sum
