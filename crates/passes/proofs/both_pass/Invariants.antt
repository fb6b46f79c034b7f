-- `passes::both_pass` meets its contract. The loop: the turns from here lead to the outcome, and the closed cells bound them.
use Rattle.rules.specs.Clicks.{desk}
use Rattle.passes.proofs.Turns.{Turning, to_go}
use Rattle.passes.proofs.both_pass.Given as goal

abbrev pub invariant-loop-go : goal.invariant-loop-go
invariant-loop-go l = Turning l.mines (desk l.initial.q l.initial.shown l.initial.bits) l.initial.work (desk l.q l.shown l.bits) l.work l.go

abbrev pub decreases-loop-go : goal.decreases-loop-go
decreases-loop-go l = to_go l.mines (desk l.initial.q l.initial.shown l.initial.bits) (desk l.q l.shown l.bits) l.go
