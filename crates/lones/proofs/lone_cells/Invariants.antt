-- `lones::lone_cells`: the invariant is the lone numbers of the cells so far.
use mathlib.Core.Path.{◌≡◌}
use Rattle.rules.specs.Words.{stack_of}
use Rattle.rules.specs.Judging.{lones}
use Rattle.lones.proofs.lone_cells.Given as goal

abbrev pub invariant-loop-cell : goal.invariant-loop-cell
invariant-loop-cell l = l.sum ≡ lones l.mines l.rows l.columns (stack_of l.given l.cell-index)
