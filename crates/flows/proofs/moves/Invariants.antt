-- `flows::moves` meets its contract. The loop: so many moves follow each other.
use Rattle.flows.specs.Runs.{Moves}
use Rattle.flows.proofs.moves.Given as goal

abbrev pub invariant-loop-n : goal.invariant-loop-n
invariant-loop-n l = Moves l.s l.events l.from l.n
