-- `noflag_board::other_mode` meets its contract: each test that fails before the mode is reached says no.
use borrow.Author.Tests.{not-true, not-false}
use Rattle.book.proofs.Reading.{settings_there}
use Rattle.noflag_board.proofs.Booking.{other_empty, other_count, other_short, other_there}
use mathlib.Core.Path.{ap}
use mathlib.Core.Bool.{not}
use Rattle.noflag_board.proofs.other_mode.Goals as goal

pub returns-then-s-lt1 : goal.returns-then-s-lt1
returns-then-s-lt1 c = other_empty _ c.if-s-lt1.true

pub returns-then-not-count : goal.returns-then-not-count
returns-then-not-count c = other_count _ c.if-s-lt1.false (not-true _ (ap not c.if-not-count.true))

pub returns-then-s-end : goal.returns-then-s-end
returns-then-s-end c = other_short _ c.if-s-lt1.false _ (not-false _ (ap not c.if-not-count.false)) c.from-end.ensures c.if-s-end.true

pub mode_wrong-requires : goal.mode_wrong-requires
mode_wrong-requires c = (settings_there _ _ (not-false _ (ap not c.if-not-count.false)) c.from-end.ensures c.if-s-end.false).0

pub returns : goal.returns
returns c = other_there _ c.if-s-lt1.false _ (not-false _ (ap not c.if-not-count.false)) c.from-end.ensures c.if-s-end.false _ c.mode_wrong.ensures
