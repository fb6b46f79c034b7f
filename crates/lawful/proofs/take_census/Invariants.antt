-- `lawful::take_census` meets its contract: the counts are those of the cells passed.
use Rattle.lawful.specs.Parts.{Counted}
use Rattle.lawful.proofs.take_census.Given as goal

abbrev pub invariant-loop-x : goal.invariant-loop-x
invariant-loop-x l = Counted l.shown l.x-index l.c
