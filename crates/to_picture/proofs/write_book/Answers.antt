-- `to_picture::write_book` meets its contract: a refused book has its printout handed over, an accepted one left its board.
use mathlib.Core.Path.{sym}
use lib.Seq.{length-take-le}
use Rattle.to_picture.proofs.Drawn.{text_handed}
use Rattle.to_picture.proofs.write_book.Goals as goal

pub play_to_end-n-requires : goal.play_to_end-n-requires
play_to_end-n-requires g c = record { s_len_bound = c.requires; value = (c.shown_board-shown.ensures, c.text_room-text.ensures) }

pub slice_bounds-text-end : goal.slice_bounds-text-end
slice_bounds-text-end g c = c.play_to_end-n.ensures.fits

pub slice_bounds-hand-end : goal.slice_bounds-hand-end
slice_bounds-hand-end g c = sym (length-take-le _ _ c.play_to_end-n.ensures.fits)

pub hand-requires : goal.hand-requires
hand-requires g c = text_handed c.args.s.now c.play_to_end-n.ensures c.read_book-b.result c.read_book-b.ensures c.if-b-ne0.true

pub write_board-requires : goal.write_board-requires
write_board-requires g c = record { b_value = (c.read_book-b.ensures, c.if-b-ne0.false); last = c.play_to_end-n.ensures.last _ c.read_book-b.ensures c.if-b-ne0.false }
