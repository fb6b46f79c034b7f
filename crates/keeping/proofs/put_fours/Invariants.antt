-- `keeping::put_fours` meets its contract. The invariant: the numbers not yet taken, written from here on, make the whole text.
use lib.ListN.{drop}
use Rattle.rules.specs.Slides.{fours}
use Rattle.writing.proofs.Putting.{Leads}
use Rattle.keeping.proofs.put_fours.Given as goal

abbrev pub invariant-loop-n : goal.invariant-loop-n
invariant-loop-n l = Leads (fours l.ns) l.at l.initial.out (fours (drop l.n-index l.ns)) l.o l.out
