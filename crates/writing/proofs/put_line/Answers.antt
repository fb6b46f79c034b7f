-- `writing::put_line` meets its contract: the first number, the others, the line's end, one after the other.
use Rattle.writing.proofs.Putting.{room_first, room_second, room_as, put_then, put_as}
use mathlib.Core.Path.{sym}
use Rattle.writing.proofs.Spaced.{line_parts}
use Rattle.writing.proofs.put_line.Goals as goal

pub put_decimal-first-requires : goal.put_decimal-first-requires
put_decimal-first-requires c = room_first _ (room_as (line_parts _ _) c.requires)

pub put_spaced-last-requires : goal.put_spaced-last-requires
put_spaced-last-requires c = room_first _ (room_second (room_as (line_parts _ _) c.requires) c.put_decimal-first.ensures)

pub put_byte-requires : goal.put_byte-requires
put_byte-requires c = room_second (room_second (room_as (line_parts _ _) c.requires) c.put_decimal-first.ensures) c.put_spaced-last.ensures

pub returns : goal.returns
returns c = put_as (sym (line_parts _ _)) (put_then c.put_decimal-first.ensures (put_then c.put_spaced-last.ensures c.put_byte.ensures))
