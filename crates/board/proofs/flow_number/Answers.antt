-- `board::flow_number` meets its contract.
use borrow.Author.Tests.{le-leb, lt-leb}
use Rattle.board.proofs.flow_number.Goals as goal

pub returns-then-a-ge20 : goal.returns-then-a-ge20
returns-then-a-ge20 c = simp (le-leb _ _ c.if-a-ge20.true)

pub returns : goal.returns
returns c = simp (lt-leb _ _ c.if-a-ge20.false)
