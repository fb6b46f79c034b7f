-- `opening::work_off` meets its contract. The invariant is `Going`; the measure, the stack's height and the closed cells together, falls at every turn. Assumes nothing.
use Prim.Native.Nat.{◌+◌}
use Rattle.rules.specs.Opening.{count_shown}
use Rattle.rules.specs.Lawful.{shows}
use Rattle.opening.proofs.Going.{Going}
use Rattle.cells.specs.Promises.{Ticked}
use Rattle.opening.proofs.work_off.Given as goal

abbrev pub invariant-loop-turn : goal.invariant-loop-turn
invariant-loop-turn l = Going l.mines l.rows l.columns l.initial.turn.top l.initial.turn.hit l.initial.shown l.initial.work l.shown l.work l.turn.top l.turn.hit × Ticked l.initial.turn.opened l.initial.shown l.turn.opened l.shown

abbrev pub decreases-loop-turn : goal.decreases-loop-turn
decreases-loop-turn l = l.turn.top + count_shown (shows 10) l.shown
