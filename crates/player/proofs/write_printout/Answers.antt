-- `player::write_printout` meets its contract: its own rooms are enough for every book, so what is not printed is for want of text room; and what it hands over is the printout.
use mathlib.Core.Path.{sym, subst}
use lib.Seq.{length-take-le}
use Rattle.player.proofs.Lending.{written_as, handed_fits, handed_whole, written_left}
use Rattle.std.specs.Io.KnownBytes.{Appends}
use Rattle.streams.proofs.Handing.{none_handed, anyway}
use Rattle.player.proofs.write_printout.Goals as goal

pub returns-then-n-eq0-clause-ok : goal.returns-then-n-eq0-clause-ok
returns-then-n-eq0-clause-ok g c = written_as _ _ _ _ _ _ c.mine_board-mines.ensures c.shown_board-shown.ensures c.flag_bits-bits.ensures c.work_room-work.ensures c.print_book-n.ensures

pub returns-then-n-eq0-clause-handed : goal.returns-then-n-eq0-clause-handed
returns-then-n-eq0-clause-handed g c = none_handed _ _ c.if-n-eq0.true

pub slice_bounds-hand-end : goal.slice_bounds-hand-end
slice_bounds-hand-end g c = handed_fits _ _ (written_as _ _ _ _ _ _ c.mine_board-mines.ensures c.shown_board-shown.ensures c.flag_bits-bits.ensures c.work_room-work.ensures c.print_book-n.ensures) c.if-n-eq0.false c.print_book-n.auto.out

pub slice_bounds-hand-end-2 : goal.slice_bounds-hand-end-2
slice_bounds-hand-end-2 g c = sym (length-take-le _ _ (handed_fits _ _ (written_as _ _ _ _ _ _ c.mine_board-mines.ensures c.shown_board-shown.ensures c.flag_bits-bits.ensures c.work_room-work.ensures c.print_book-n.ensures) c.if-n-eq0.false c.print_book-n.auto.out))

pub hand-requires : goal.hand-requires
hand-requires g c = handed_whole _ _ (written_as _ _ _ _ _ _ c.mine_board-mines.ensures c.shown_board-shown.ensures c.flag_bits-bits.ensures c.work_room-work.ensures c.print_book-n.ensures) c.if-n-eq0.false

pub returns-clause-ok : goal.returns-clause-ok
returns-clause-ok g c = written_as _ _ _ _ _ _ c.mine_board-mines.ensures c.shown_board-shown.ensures c.flag_bits-bits.ensures c.work_room-work.ensures c.print_book-n.ensures

pub returns-clause-handed : goal.returns-clause-handed
returns-clause-handed g c = subst (Appends _ _) (sym (handed_whole _ _ (written_as _ _ _ _ _ _ c.mine_board-mines.ensures c.shown_board-shown.ensures c.flag_bits-bits.ensures c.work_room-work.ensures c.print_book-n.ensures) c.if-n-eq0.false)) c.in_ok-hand.ensures.ok

pub returns-in_err-hand-clause-err : goal.returns-in_err-hand-clause-err
returns-in_err-hand-clause-err g c = anyway c.from_residual.result (written_left _ _ (written_as _ _ _ _ _ _ c.mine_board-mines.ensures c.shown_board-shown.ensures c.flag_bits-bits.ensures c.work_room-work.ensures c.print_book-n.ensures) c.if-n-eq0.false)
