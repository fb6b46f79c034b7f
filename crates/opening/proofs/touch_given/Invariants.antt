-- `opening::touch_given` meets its contract. The loop's invariant: the given cells so far are touched. Assumes nothing.
use mathlib.Core.Bool.{false}
use mathlib.Core.List.{[]}
use Rattle.rules.specs.Words.{stack_of}
use Rattle.opening.specs.Quick.{front, touched_all}
use Rattle.opening.specs.Parts.{Moved}
use Rattle.cells.specs.Promises.{Ticked}
use Rattle.opening.proofs.touch_given.Given as goal

abbrev pub invariant-loop-cell : goal.invariant-loop-cell
invariant-loop-cell l = Moved (touched_all l.mines (stack_of l.given l.cell-index) (front [] l.initial.shown false)) l.initial.work 0 l.shown l.work l.turn.top l.turn.hit × Ticked 0 l.initial.shown l.turn.opened l.shown
