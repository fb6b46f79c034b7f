-- `text::put_row` meets its contract: the first cell, the others, the line's end, one after the other.
use Rattle.writing.proofs.Putting.{room_first, room_second, room_as, put_then, put_as}
use mathlib.Core.Path.{sym}
use Rattle.text.proofs.Lines.{row_parts}
use Rattle.text.proofs.put_row.Goals as goal

pub put_decimal-first-requires : goal.put_decimal-first-requires
put_decimal-first-requires c = room_first _ (room_as (row_parts _ c.from.ensures c.requires.0) c.requires.1)

pub put_cells-last-requires : goal.put_cells-last-requires
put_cells-last-requires c = room_first _ (room_second (room_as (row_parts _ c.from.ensures c.requires.0) c.requires.1) c.put_decimal-first.ensures)

pub put_byte-requires : goal.put_byte-requires
put_byte-requires c = room_second (room_second (room_as (row_parts _ c.from.ensures c.requires.0) c.requires.1) c.put_decimal-first.ensures) c.put_cells-last.ensures

pub returns : goal.returns
returns c = put_as (sym (row_parts _ c.from.ensures c.requires.0)) (put_then c.put_decimal-first.ensures (put_then c.put_cells-last.ensures c.put_byte.ensures))
