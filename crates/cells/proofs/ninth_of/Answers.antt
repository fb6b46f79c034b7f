-- `cells::ninth_of` meets its contract.
use borrow.Author.Tests.{le-leb, lt-leb}
use Rattle.rules.specs.Grid.{ninth}
use Rattle.cells.proofs.ninth_of.Goals as goal

pub returns-then-k-ge4 : goal.returns-then-k-ge4
unfolding ninth
returns-then-k-ge4 c = simp (le-leb _ _ c.if-k-ge4.true)

pub returns : goal.returns
unfolding ninth
returns c = simp (lt-leb _ _ c.if-k-ge4.false)
