-- `to_picture::write_board` meets its contract: the writer accepts the board, and what it wrote is handed over.
use mathlib.Core.Path.{sym}
use lib.Seq.{length-take-le}
use Rattle.last_board.proofs.Showable.{board_fits}
use Rattle.to_picture.proofs.Drawn.{picture_fits, picture_handed}
use Rattle.to_picture.proofs.write_board.Goals as goal

pub slice_bounds-write_picture-end : goal.slice_bounds-write_picture-end
slice_bounds-write_picture-end g c = let args = c.args in sym (length-take-le _ _ (board_fits args.s.now args.b c.requires.b_value.0 c.requires.b_value.1 c.requires.last c.cell_count-cells.ensures.0))

pub slice_bounds-out-end : goal.slice_bounds-out-end
slice_bounds-out-end g c = let args = c.args in picture_fits args.s.now args.b c.requires.b_value.0 c.requires.b_value.1 c.requires.last c.cell_count-cells.ensures.0 c.picture_room-out.result c.picture_room-out.ensures c.write_picture-w.ensures
    c.write_picture-w.auto.out

pub slice_bounds-hand-end : goal.slice_bounds-hand-end
slice_bounds-hand-end g c = let args = c.args in sym
    (length-take-le _ _
    (picture_fits args.s.now args.b c.requires.b_value.0 c.requires.b_value.1 c.requires.last c.cell_count-cells.ensures.0 c.picture_room-out.result c.picture_room-out.ensures c.write_picture-w.ensures
    c.write_picture-w.auto.out))

pub hand-requires : goal.hand-requires
hand-requires g c = let args = c.args in picture_handed args.s.now args.b c.requires.b_value.0 c.requires.b_value.1 c.requires.last c.cell_count-cells.ensures.0 c.picture_room-out.result c.picture_room-out.ensures c.write_picture-w.ensures
