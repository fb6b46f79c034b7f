-- `writing::put_spaced` meets its contract. The invariant: the numbers not yet taken, written from here on, make the whole text.
use lib.ListN.{drop}
use Rattle.rules.specs.Printout.{spaced}
use Rattle.writing.proofs.Putting.{Leads}
use Rattle.writing.proofs.put_spaced.Given as goal

abbrev pub invariant-loop-n : goal.invariant-loop-n
invariant-loop-n l = Leads (spaced l.ns) l.at l.initial.out (spaced (drop l.n-index l.ns)) l.o l.out
