-- `tokens::skip` meets its contract: from here on the same bytes are skipped as from the start.
use borrow.Author.Tests.{not-true, not-false}
use Rattle.tokens.proofs.Skipping.{skip_turn, skip_stops, skip_ends}
use mathlib.Core.Path.{ap}
use mathlib.Core.Bool.{not}
use Rattle.tokens.proofs.skip.Goals as goal

pub returns-then-not-passed : goal.returns-then-not-passed
returns-then-not-passed c = skip_stops _ _ _ _ c.loop-at-test.true c.is_gap.ensures (not-true _ (ap not c.if-not-passed.true)) c.loop-at.invariant

pub loop-at-preserved : goal.loop-at-preserved
loop-at-preserved c = skip_turn _ _ _ _ c.loop-at-test.true c.is_gap.ensures (not-false _ (ap not c.if-not-passed.false)) c.runs_on-inside.ensures c.loop-at.invariant

pub returns : goal.returns
returns c = skip_ends _ _ _ _ c.loop-at-test.false c.loop-at.invariant
