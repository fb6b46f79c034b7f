-- `board::first_refusal` meets its contract.
use mathlib.Core.Path.{◌∙◌, refl}
use borrow.Author.Tests.{lt-ltb, le-ltb}
use Rattle.rules.specs.Step.{refusal_at}
use Rattle.board.proofs.first_refusal.Goals as goal

pub returns-then-events-lt3 : goal.returns-then-events-lt3
returns-then-events-lt3 c = λ bits. rw (lt-ltb _ _ c.if-events-lt3.true) refl

pub returns-in_default : goal.returns-in_default
returns-in_default c = λ bits. rw (le-ltb _ _ c.if-events-lt3.false, ← c.decode.ensures, c.in_default.is) refl

pub returns : goal.returns
unfolding refusal_at
returns c = let a = c.args in λ bits. rw (le-ltb _ _ c.if-events-lt3.false, ← c.decode.ensures, c.in-Some.is) (c.refusal_of.ensures bits ∙ rw (c.resolve_at-h.ensures a.shown.now bits) refl)
