-- `hint::write_hint` meets its contract: the hint is on the last shown board, and its line is handed over.
use mathlib.Core.Path.{sym}
use lib.Seq.{length-take-le}
use Rattle.last_board.proofs.Showable.{board_fits}
use Rattle.hint.proofs.Hinted.{end_room, line_fits, line_handed}
use Rattle.hint.proofs.write_hint.Goals as goal

pub slice_bounds-hint_on-end : goal.slice_bounds-hint_on-end
slice_bounds-hint_on-end g c = sym (length-take-le _ _ (board_fits c.args.s.now c.args.b c.requires.b_value.0 c.requires.b_value.1 c.requires.last c.cell_count-cells.ensures.0))

pub put_byte-n-requires : goal.put_byte-n-requires
put_byte-n-requires g c = end_room c.hint_on-hint.result c.line_room-out.ensures c.put_hint-end.ensures

pub slice_bounds-out-end : goal.slice_bounds-out-end
slice_bounds-out-end g c = line_fits c.hint_on-hint.result c.line_room-out.ensures c.put_hint-end.ensures c.put_byte-n.ensures

pub slice_bounds-hand-end : goal.slice_bounds-hand-end
slice_bounds-hand-end g c = sym (length-take-le _ _ (line_fits c.hint_on-hint.result c.line_room-out.ensures c.put_hint-end.ensures c.put_byte-n.ensures))

pub hand-requires : goal.hand-requires
hand-requires g c = let args = c.args in line_handed c.hint_on-hint.result c.line_room-out.ensures c.put_hint-end.ensures c.put_byte-n.ensures args.s.now args.b c.requires.b_value.0 c.requires.b_value.1 c.requires.last c.cell_count-cells.ensures.0 c.hint_on-hint.ensures
