-- `book::read_events` meets its contract: at each return the tests that led there say which fault is the first.
use borrow.Author.Tests.{le-leb, lt-leb}
use Rattle.rules.specs.Book.{events_from}
use Rattle.book.proofs.read_events.Goals as goal

pub returns-then-s-at : goal.returns-then-s-at
unfolding events_from
returns-then-s-at c = simp (lt-leb _ _ c.if-s-at.true, c.refuse.ensures)

pub returns-then-n-gt-MOST : goal.returns-then-n-gt-MOST
unfolding events_from
returns-then-n-gt-MOST c = simp (le-leb _ _ c.if-s-at.false, ← c.word_at-n.ensures.0, lt-leb _ _ c.if-n-gt-MOST.true, c.refuse-then-n-gt-MOST.ensures)

pub returns-then-s-end : goal.returns-then-s-end
unfolding events_from
returns-then-s-end c = simp (le-leb _ _ c.if-s-at.false, ← c.word_at-n.ensures.0, le-leb _ _ c.if-n-gt-MOST.false, lt-leb _ _ c.if-s-end.true, c.refuse-then-s-end.ensures)

pub returns : goal.returns
unfolding events_from
returns c = simp (le-leb _ _ c.if-s-at.false, ← c.word_at-n.ensures.0, le-leb _ _ c.if-n-gt-MOST.false, le-leb _ _ c.if-s-end.false)
