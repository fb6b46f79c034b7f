-- `drawing::put_picture` meets its contract: the mark, the three numbers and the cells, one after the other.
use mathlib.Core.Path.{ap, sym}
use Rattle.writing.proofs.Putting.{room_as, put_as}
use Rattle.drawing.proofs.Plain.{number_line}
use Rattle.drawing.proofs.Drawing.{room_mark, room_width, room_height, room_maximum, room_board, put_plain}
use Rattle.drawing.proofs.put_picture.Goals as goal

pub put_bytes-width-requires : goal.put_bytes-width-requires
put_bytes-width-requires c = room_mark _ _ _ c.requires

pub put_number_line-height-requires : goal.put_number_line-height-requires
put_number_line-height-requires c = room_as (ap number_line (sym c.from.ensures)) (room_width _ _ _ c.requires c.put_bytes-width.ensures)

pub put_number_line-maximum-requires : goal.put_number_line-maximum-requires
put_number_line-maximum-requires c = let w = put_as (ap number_line c.from.ensures) c.put_number_line-height.ensures in
    room_as (ap number_line (sym c.from-2.ensures)) (room_height _ _ _ c.requires c.put_bytes-width.ensures w)

pub put_number_line-board-requires : goal.put_number_line-board-requires
put_number_line-board-requires c = let w = put_as (ap number_line c.from.ensures) c.put_number_line-height.ensures in
    let h = put_as (ap number_line c.from-2.ensures) c.put_number_line-maximum.ensures in room_maximum _ _ _ c.requires c.put_bytes-width.ensures w h

pub put_cell_lines-requires : goal.put_cell_lines-requires
put_cell_lines-requires c = let w = put_as (ap number_line c.from.ensures) c.put_number_line-height.ensures in
    let h = put_as (ap number_line c.from-2.ensures) c.put_number_line-maximum.ensures in
    room_board _ _ _ c.requires c.put_bytes-width.ensures w h c.put_number_line-board.ensures

pub returns : goal.returns
returns c = let w = put_as (ap number_line c.from.ensures) c.put_number_line-height.ensures in
    let h = put_as (ap number_line c.from-2.ensures) c.put_number_line-maximum.ensures in
    put_plain _ _ _ c.requires c.put_bytes-width.ensures w h c.put_number_line-board.ensures c.put_cell_lines.ensures
