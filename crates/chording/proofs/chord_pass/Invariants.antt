-- `chording::chord_pass` meets its contract. The loop: the rounds from here lead to the outcome, and the closed cells bound them.
use Rattle.chording.proofs.Chording.{Passing, to_go}
use Rattle.chording.proofs.chord_pass.Given as goal

abbrev pub invariant-loop-go : goal.invariant-loop-go
invariant-loop-go l = Passing l.mines l.initial.s.position.settings l.initial.s l.initial.shown l.initial.work l.s l.shown l.work l.go

abbrev pub decreases-loop-go : goal.decreases-loop-go
decreases-loop-go l = to_go l.mines l.initial.s.position.settings l.s l.shown l.go
