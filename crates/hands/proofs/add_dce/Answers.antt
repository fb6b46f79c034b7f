-- `hands::add_dce` meets its contract.
use borrow.Author.Tests.{eq-eqb, ne_eqb}
use Rattle.hands.proofs.add_dce.Goals as goal

pub returns-then-o-eq0 : goal.returns-then-o-eq0
returns-then-o-eq0 c = simp (eq-eqb _ _ c.if-o-eq0.true)

pub returns : goal.returns
returns c = simp (ne_eqb _ _ c.if-o-eq0.false, c.with_dce-position.ensures)
