-- `writing::put_bytes` meets its contract. The invariant: the bytes not yet taken, written from here on, make the whole word.
use lib.ListN.{drop}
use Rattle.writing.proofs.Putting.{Leads}
use Rattle.writing.proofs.put_bytes.Given as goal

abbrev pub invariant-loop-b : goal.invariant-loop-b
invariant-loop-b l = Leads l.word l.at l.initial.out (drop l.b-index l.word) l.o l.out
