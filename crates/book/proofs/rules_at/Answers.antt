-- `book::rules_at` meets its contract.
use borrow.Author.Tests.{eq-eqb, ne_eqb}
use Rattle.book.proofs.rules_at.Goals as goal

pub returns-then-s-eq5 : goal.returns-then-s-eq5
returns-then-s-eq5 c = simp (eq-eqb _ _ c.if-s-eq5.true)

pub returns-else-s-eq5 : goal.returns-else-s-eq5
returns-else-s-eq5 c = simp (ne_eqb _ _ c.if-s-eq5.false)
