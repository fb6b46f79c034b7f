-- `practice::call_at` meets its contract: each way out is one case of the definition.
use mathlib.Core.Path.{◌∙◌}
use native.Mathlib.Omega.{arith}
use Rattle.practice.proofs.Calls.{call_short, call_report, call_strange, call_cut, call_question}
use Rattle.practice.proofs.call_at.Goals as goal

pub returns-then-s-at-lt5 : goal.returns-then-s-at-lt5
returns-then-s-at-lt5 c = call_short _ _ c.requires c.if-s-at-lt5.true

pub returns-then-s-at : goal.returns-then-s-at
returns-then-s-at c = call_cut _ _ c.requires c.if-s-at-lt5.false c.in-0.is (c.from-shown.ensures ∙ c.two_at.ensures) c.if-s-at.true

pub returns-else-s-at : goal.returns-else-s-at
returns-else-s-at c = call_question _ _ c.requires c.if-s-at-lt5.false c.in-0.is (c.from-shown.ensures ∙ c.two_at.ensures) c.if-s-at.false

pub returns-in-1 : goal.returns-in-1
returns-in-1 c = call_report _ _ c.requires c.if-s-at-lt5.false c.in-1.is

pub returns-in_default : goal.returns-in_default
returns-in_default c = call_strange _ _ c.requires c.if-s-at-lt5.false (λ e. omega arith) (λ e. omega arith)
