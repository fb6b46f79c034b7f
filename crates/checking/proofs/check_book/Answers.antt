use mathlib.Core.Path.{sym}
use native.Mathlib.Omega.{arith}
use lib.Seq.{length-take-le}
use Rattle.claims.proofs.Order.{check_refused}
use Rattle.checking.proofs.Verdicts.{check_there, check_reaches, check_asks, check_refuses, check_judges}
use Rattle.checking.proofs.check_book.Goals as goal

-- src/lib.rt:21:9
pub returns-then-b-ne0 : goal.returns-then-b-ne0
returns-then-b-ne0 c = check_refused _ c.read_claimed-b.result c.read_claimed-b.ensures c.if-b-ne0.true

-- src/lib.rt:26:29
pub overflow_mul-end : goal.overflow_mul-end
overflow_mul-end c = record { fits = omega (arith, check_reaches _ c.read_claimed-b.result c.read_claimed-b.ensures c.if-b-ne0.false) }

-- src/lib.rt:26:15
pub overflow_add-end : goal.overflow_add-end
overflow_add-end c = record { fits = omega (arith, check_reaches _ c.read_claimed-b.result c.read_claimed-b.ensures c.if-b-ne0.false) }

-- src/lib.rt:27:32
pub slice_bounds-play_book-end : goal.slice_bounds-play_book-end
slice_bounds-play_book-end c = sym (length-take-le _ _ (check_reaches _ c.read_claimed-b.result c.read_claimed-b.ensures c.if-b-ne0.false))

-- src/lib.rt:27:9
pub play_book-o-requires : goal.play_book-o-requires
play_book-o-requires c = check_asks _ c.read_claimed-b.result c.read_claimed-b.ensures c.if-b-ne0.false

-- src/lib.rt:31:9
pub returns-then-o-ge20 : goal.returns-then-o-ge20
returns-then-o-ge20 c = check_refuses _ c.read_claimed-b.result c.read_claimed-b.ensures c.if-b-ne0.false c.play_book-o.ensures c.if-o-ge20.true

-- src/lib.rt:33:5
pub judge-requires : goal.judge-requires
judge-requires c = check_there _ c.read_claimed-b.result c.read_claimed-b.ensures c.if-b-ne0.false

-- src/lib.rt:16:1
pub returns : goal.returns
returns c = check_judges _ c.read_claimed-b.result c.read_claimed-b.ensures c.if-b-ne0.false c.play_book-o.ensures c.if-o-ge20.false c.judge.ensures
