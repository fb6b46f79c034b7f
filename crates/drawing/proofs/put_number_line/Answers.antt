-- `drawing::put_number_line` meets its contract: the number, then the line's end.
use Rattle.writing.proofs.Putting.{room_first, room_second, put_then}
use Rattle.drawing.proofs.put_number_line.Goals as goal

pub put_decimal-next-requires : goal.put_decimal-next-requires
put_decimal-next-requires c = room_first _ c.requires

pub put_byte-requires : goal.put_byte-requires
put_byte-requires c = room_second c.requires c.put_decimal-next.ensures

pub returns : goal.returns
returns c = put_then c.put_decimal-next.ensures c.put_byte.ensures
