use borrow.Author.Tests.{not-true, not-false}
use Rattle.checking.proofs.Verdicts.{claim_refuses_book, claim_refuses_event, claim_refuses_running, claim_writes}
use mathlib.Core.Path.{ap}
use mathlib.Core.Bool.{not}
use Rattle.checking.proofs.claim_book.Goals as goal

-- src/lib.rt:64:9
pub returns-then-b-ne0 : goal.returns-then-b-ne0
returns-then-b-ne0 c = claim_refuses_book _ c.read_book-b.result c.read_book-b.ensures c.if-b-ne0.true c.refused.ensures

-- src/lib.rt:73:9
pub returns-then-o-ge20 : goal.returns-then-o-ge20
returns-then-o-ge20 c = claim_refuses_event _ c.read_book-b.result c.read_book-b.ensures c.if-b-ne0.false c.play_book-o.ensures c.if-o-ge20.true c.refused-then-o-ge20.ensures

-- src/lib.rt:77:9
pub returns-then-not-is_ended : goal.returns-then-not-is_ended
returns-then-not-is_ended c = claim_refuses_running _ c.read_book-b.result c.read_book-b.ensures c.if-b-ne0.false c.play_book-o.ensures c.if-o-ge20.false c.is_ended.ensures (not-true _ (ap not c.if-not-is_ended.true)) c.refused-then-not-is_ended.ensures

-- src/lib.rt:59:1
pub returns : goal.returns
returns c = claim_writes _ c.read_book-b.result c.read_book-b.ensures c.if-b-ne0.false c.play_book-o.ensures c.if-o-ge20.false c.is_ended.ensures (not-false _ (ap not c.if-not-is_ended.false)) c.section.ensures
