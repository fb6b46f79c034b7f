-- `tokens::skip` meets its contract: from here on the same bytes are skipped as from the start.
use mathlib.Core.Path.{◌≡◌}
use mathlib.Core.Bool.{false}
use lib.ListN.{drop}
use Rattle.rules.specs.Picture.{skipped}
use Rattle.tokens.proofs.skip.Given as goal

abbrev pub invariant-loop-at : goal.invariant-loop-at
invariant-loop-at l = skipped l.hash l.inside (drop l.at l.s) ≡ skipped l.hash false (drop l.from l.s)
