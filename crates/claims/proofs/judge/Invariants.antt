use Rattle.claims.proofs.Judging.{Agreed}
use Rattle.claims.proofs.judge.Given as goal

abbrev pub invariant-loop-i : goal.invariant-loop-i
invariant-loop-i l = Agreed l.s l.at l.is-items l.i
