-- `flows::flow` meets its contract.
use Prim.Native.Nat.{◌-◌}
use lib.ListN.{length}
use Rattle.flows.proofs.Flows.{Flowing}
use Rattle.flows.proofs.flow.Given as goal

abbrev pub invariant-loop-at : goal.invariant-loop-at
invariant-loop-at l = Flowing l.mines l.events l.initial.at l.initial.o l.initial.shown l.initial.bits l.initial.work l.at l.o l.shown l.bits l.work

abbrev pub decreases-loop-at : goal.decreases-loop-at
decreases-loop-at l = length l.events - l.at
