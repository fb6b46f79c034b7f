-- `opening::touch_around` meets its contract. The loop's invariant: the first k neighbours are touched, and the lengths are as they were. Assumes nothing.
use mathlib.Core.Path.{◌≡◌}
use Prim.Native.Nat.{◌≤◌, ◌-◌}
use lib.ListN.{length}
use Rattle.rules.specs.Words.{stack_of}
use Rattle.rules.specs.Grid.{cell_of}
use Rattle.opening.specs.Quick.{front, touched_around}
use Rattle.opening.specs.Parts.{Moved}
use Rattle.cells.specs.Promises.{Ticked}
use Rattle.opening.proofs.touch_around.Given as goal

abbrev pub invariant-loop-k : goal.invariant-loop-k
invariant-loop-k l = (l.k ≤ 8) × Moved (touched_around l.mines l.rows l.columns (cell_of l.columns l.row l.column) l.k (front (stack_of l.initial.work l.initial.turn.top) l.initial.shown l.initial.turn.hit)) l.initial.work l.initial.turn.top l.shown l.work l.turn.top l.turn.hit × (length l.shown ≡ length l.initial.shown) × (length l.work ≡ length l.initial.work) × Ticked l.initial.turn.opened l.initial.shown l.turn.opened l.shown

abbrev pub decreases-loop-k : goal.decreases-loop-k
decreases-loop-k l = 8 - l.k
