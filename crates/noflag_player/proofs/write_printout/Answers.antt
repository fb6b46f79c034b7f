-- `noflag_player::write_printout` meets its contract: its own rooms are enough for every book, and what it hands over is the printout.
use mathlib.Core.Path.{sym, subst, refl}
use lib.Seq.{length-take-le}
use borrow.Author.Tests.{not-true, not-false}
use Rattle.noflag_player.proofs.Lending.{fits_means, rooms_enough, written_none, written_all, handed_fits, handed_whole, written_left}
use mathlib.Core.Path.{ap}
use mathlib.Core.Bool.{not}
use Rattle.std.specs.Io.KnownBytes.{Appends}
use Rattle.streams.proofs.Handing.{none_handed, anyway}
use Rattle.noflag_player.proofs.write_printout.Goals as goal

pub returns-then-not-text_fits-clause-handed : goal.returns-then-not-text_fits-clause-handed
returns-then-not-text_fits-clause-handed g c = none_handed _ c.args.out.now refl

pub returns-then-not-text_fits-clause-ok : goal.returns-then-not-text_fits-clause-ok
returns-then-not-text_fits-clause-ok g c = written_none _ _ _ c.text_fits.ensures (not-true _ (ap not c.if-not-text_fits.true))

pub print_lent-n-requires : goal.print_lent-n-requires
print_lent-n-requires g c = rooms_enough c.mine_board-mines.result c.shown_board-shown.result c.flag_bits-bits.result c.work_room-work.result c.mine_board-mines.ensures c.shown_board-shown.ensures c.flag_bits-bits.ensures c.work_room-work.ensures (fits_means _ c.text_fits.ensures (not-false _ (ap not c.if-not-text_fits.false)))

pub slice_bounds-hand-end : goal.slice_bounds-hand-end
slice_bounds-hand-end g c = handed_fits _ _ _ c.text_fits.ensures (not-false _ (ap not c.if-not-text_fits.false)) c.print_lent-n.ensures

pub slice_bounds-hand-end-2 : goal.slice_bounds-hand-end-2
slice_bounds-hand-end-2 g c = sym (length-take-le _ _ (handed_fits _ _ _ c.text_fits.ensures (not-false _ (ap not c.if-not-text_fits.false)) c.print_lent-n.ensures))

pub hand-requires : goal.hand-requires
hand-requires g c = handed_whole _ _ _ c.text_fits.ensures (not-false _ (ap not c.if-not-text_fits.false)) c.print_lent-n.ensures

pub returns-clause-ok : goal.returns-clause-ok
returns-clause-ok g c = written_all _ _ _ c.text_fits.ensures (not-false _ (ap not c.if-not-text_fits.false)) c.print_lent-n.ensures

pub returns-clause-handed : goal.returns-clause-handed
returns-clause-handed g c = subst (Appends _ _) (sym (handed_whole _ _ _ c.text_fits.ensures (not-false _ (ap not c.if-not-text_fits.false)) c.print_lent-n.ensures)) c.in_ok-hand.ensures.ok

pub returns-in_err-hand-clause-err : goal.returns-in_err-hand-clause-err
returns-in_err-hand-clause-err g c = anyway c.from_residual.result (written_left _ _ _ c.text_fits.ensures (not-false _ (ap not c.if-not-text_fits.false)) c.print_lent-n.ensures)
