-- `rows::moves` meets its contract.
use Rattle.rows.specs.Rows.{Moves}
use Rattle.rows.proofs.moves.Given as goal

abbrev pub invariant-loop-n : goal.invariant-loop-n
invariant-loop-n l = Moves l.s l.section l.from l.n
