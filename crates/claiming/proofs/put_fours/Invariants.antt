use lib.ListN.{drop}
use Rattle.rules.specs.Claims.{fours}
use Rattle.writing.proofs.Putting.{Leads}
use Rattle.claiming.proofs.put_fours.Given as goal

abbrev pub invariant-loop-n : goal.invariant-loop-n
invariant-loop-n l = Leads (fours l.ns) l.at l.initial.out (fours (drop l.n-index l.ns)) l.o l.out
