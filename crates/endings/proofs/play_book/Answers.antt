use mathlib.Core.Path.{sym}
use native.Mathlib.Omega.{arith}
use lib.Seq.{length-take-le}
use Rattle.player.proofs.Refusing.{book_cells}
use Rattle.endings.proofs.Ending.{rooms_fit}
use Rattle.endings.proofs.play_book.Goals as goal

-- src/lib.rt:41:9
pub slice_bounds-mines-end : goal.slice_bounds-mines-end
slice_bounds-mines-end c = let h = book_cells _ c.args.b c.requires.0 c.requires.1 c.cell_count-cells.ensures.0 in omega arith

-- src/lib.rt:41:9
pub slice_bounds-play_on-end : goal.slice_bounds-play_on-end
slice_bounds-play_on-end c = let h = book_cells _ c.args.b c.requires.0 c.requires.1 c.cell_count-cells.ensures.0 in sym (length-take-le _ c.mine_board-mines.result (omega arith))

-- src/lib.rt:42:9
pub slice_bounds-shown-end : goal.slice_bounds-shown-end
slice_bounds-shown-end c = let h = book_cells _ c.args.b c.requires.0 c.requires.1 c.cell_count-cells.ensures.0 in omega arith

-- src/lib.rt:42:9
pub slice_bounds-play_on-end-2 : goal.slice_bounds-play_on-end-2
slice_bounds-play_on-end-2 c = let h = book_cells _ c.args.b c.requires.0 c.requires.1 c.cell_count-cells.ensures.0 in sym (length-take-le _ c.shown_board-shown.result (omega arith))

-- src/lib.rt:43:9
pub slice_bounds-bits-end : goal.slice_bounds-bits-end
slice_bounds-bits-end c = let h = book_cells _ c.args.b c.requires.0 c.requires.1 c.cell_count-cells.ensures.0 in omega arith

-- src/lib.rt:43:9
pub slice_bounds-play_on-end-3 : goal.slice_bounds-play_on-end-3
slice_bounds-play_on-end-3 c = let h = book_cells _ c.args.b c.requires.0 c.requires.1 c.cell_count-cells.ensures.0 in sym (length-take-le _ c.flag_bits-bits.result (omega arith))

-- src/lib.rt:38:5
pub play_on-requires : goal.play_on-requires
play_on-requires c = record { b_value = (c.requires.0, c.requires.1); fit = rooms_fit _ c.args.b c.requires.0 c.requires.1 c.cell_count-cells.ensures.0 c.mine_board-mines.result c.shown_board-shown.result c.flag_bits-bits.result c.work_room-work.result c.mine_board-mines.ensures c.shown_board-shown.ensures c.flag_bits-bits.ensures c.work_room-work.ensures }
