-- `tokens::number_from` meets its contract: the digits not yet counted, after the exact value that stands behind the counted one, make the whole number.
use mathlib.Core.Path.{◌∙◌, sym}
use borrow.Author.Tests.{not-true, not-false}
use Rattle.rules.specs.Refusals.{refusal_number}
use Rattle.tokens.proofs.Tokens.{counting_start, counting_turn, counting_stops, counting_ends}
use mathlib.Core.Path.{ap}
use mathlib.Core.Bool.{not}
use Rattle.tokens.proofs.number_from.Goals as goal

pub loop-at-init : goal.loop-at-init
loop-at-init c = counting_start _ _ _

pub returns-then-not-is_digit : goal.returns-then-not-is_digit
returns-then-not-is_digit c = counting_stops c.loop-at.invariant _ c.loop-at-test.true (sym c.is_digit.ensures ∙ not-true _ (ap not c.if-not-is_digit.true)) c.ended.ensures

pub add_digit-value-requires : goal.add_digit-value-requires
add_digit-value-requires c = sym c.is_digit.ensures ∙ not-false _ (ap not c.if-not-is_digit.false)

pub loop-at-preserved : goal.loop-at-preserved
loop-at-preserved c = counting_turn c.loop-at.invariant c.loop-at-test.true (sym c.is_digit.ensures ∙ not-false _ (ap not c.if-not-is_digit.false)) c.add_digit-value.ensures

pub returns : goal.returns
returns c = counting_ends c.loop-at.invariant (refusal_number c.args.fault) c.loop-at-test.false
