-- `refusals::rules_refusal` meets its contract.
use mathlib.Core.Path.{sym, ◌∙◌}
use borrow.Author.Tests.{not-true, not-false}
use mathlib.Core.Path.{ap}
use mathlib.Core.Bool.{not}
use Rattle.refusals.proofs.rules_refusal.Goals as goal

pub returns-then-not-rules_ok : goal.returns-then-not-rules_ok
returns-then-not-rules_ok c = simp (sym c.rules_ok.ensures ∙ not-true _ (ap not c.if-not-rules_ok.true))

pub returns : goal.returns
returns c = simp (sym c.rules_ok.ensures ∙ not-false _ (ap not c.if-not-rules_ok.false))
