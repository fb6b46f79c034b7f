-- `noflag_board::read_book` meets its contract: 25 at 3, or the board's reading.
use Rattle.noflag_board.proofs.Booking.{book_refused, book_read}
use Rattle.noflag_board.proofs.read_book.Goals as goal

pub returns-then-other : goal.returns-then-other
returns-then-other c = book_refused _ _ c.other_mode-other.ensures _ c.if-other.true c.refuse.ensures

pub returns : goal.returns
returns c = book_read _ _ c.other_mode-other.ensures _ c.if-other.false c.read_book-b.ensures
