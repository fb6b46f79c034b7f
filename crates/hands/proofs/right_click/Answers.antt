-- `right_click`: a closed cell is flagged, with the passes after it, or something is taken back.
use Rattle.hands.proofs.Hand.{right_place, right_asks, right_flags, right_takes}
use Rattle.hands.proofs.right_click.Goals as goal

pub flag-f-requires : goal.flag-f-requires
flag-f-requires c = record { cell_in_bounds = right_place _ _ c.args.p _ _ _ c.requires.able_at c.requires.cell_bound; valued = c.requires.able_at.laid.fits.mined.valued; room_at = c.requires.able_at.room }

pub passes_after_flag-position-requires : goal.passes_after_flag-position-requires
passes_after_flag-position-requires c = right_asks _ _ c.args.p _ _ _ c.requires.able_at c.if-shown-cell-eq10.true _ c.flag-f.ensures

pub returns-then-shown-cell-eq10 : goal.returns-then-shown-cell-eq10
returns-then-shown-cell-eq10 c = right_flags _ _ c.args.p _ _ _ c.requires.able_at c.if-shown-cell-eq10.true _ c.flag-f.ensures _ _ c.passes_after_flag-position.ensures

pub returns : goal.returns
returns c = right_takes _ _ c.args.p _ _ _ c.requires.able_at c.if-shown-cell-eq10.false _ (c.take_back.ensures _)
