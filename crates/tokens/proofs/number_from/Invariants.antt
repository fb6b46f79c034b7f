-- `tokens::number_from` meets its contract: the digits not yet counted, after the exact value that stands behind the counted one, make the whole number.
use lib.ListN.{drop}
use Rattle.rules.specs.Picture.{number_from}
use Rattle.tokens.proofs.Tokens.{Counting}
use Rattle.tokens.proofs.number_from.Given as goal

abbrev pub invariant-loop-at : goal.invariant-loop-at
invariant-loop-at l = Counting l.s l.hash (number_from l.hash 0 (drop l.from l.s)) l.at l.value
