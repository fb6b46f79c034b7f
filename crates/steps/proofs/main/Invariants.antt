-- `steps::main` meets its contract: the rooms keep their lengths, and each turn leaves one step fewer.
use Rattle.steps.specs.Rooms.{Rooms}
use Rattle.steps.proofs.main.Given as goal

abbrev pub invariant-loop-left : goal.invariant-loop-left
invariant-loop-left l = Rooms l.bytes l.mines l.shown l.bits l.work l.out

abbrev pub decreases-loop-left : goal.decreases-loop-left
decreases-loop-left l = l.left
