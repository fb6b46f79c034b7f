-- `tokens::token` meets its contract: what stands at the place that skipping gave.
use mathlib.Core.Path.{◌∙◌, sym}
use borrow.Author.Tests.{not-true, not-false}
use Rattle.rules.specs.Refusals.{refusal_number}
use Rattle.tokens.proofs.Tokens.{taken_at_end, taken_at_none, taken_at_number}
use mathlib.Core.Path.{ap}
use mathlib.Core.Bool.{not}
use Rattle.tokens.proofs.token.Goals as goal

pub returns-then-s-at : goal.returns-then-s-at
returns-then-s-at c = taken_at_end _ _ _ c.args.from _ c.skip-at.ensures (refusal_number c.args.fault) c.if-s-at.true

pub returns-then-not-is_digit : goal.returns-then-not-is_digit
returns-then-not-is_digit c = taken_at_none _ _ _ c.args.from _ c.skip-at.ensures _ c.if-s-at.false (sym c.is_digit.ensures ∙ not-true _ (ap not c.if-not-is_digit.true))

pub returns : goal.returns
returns c = taken_at_number _ _ _ c.args.from _ c.skip-at.ensures (refusal_number c.args.fault) _ c.if-s-at.false (sym c.is_digit.ensures ∙ not-false _ (ap not c.if-not-is_digit.false)) c.number_from.ensures
