-- `writing::put_word_line` meets its contract: the word, the numbers, the line's end, one after the other.
use Rattle.writing.proofs.Putting.{room_first, room_second, put_then}
use Rattle.writing.proofs.put_word_line.Goals as goal

pub put_bytes-first-requires : goal.put_bytes-first-requires
put_bytes-first-requires c = room_first _ c.requires

pub put_spaced-last-requires : goal.put_spaced-last-requires
put_spaced-last-requires c = room_first _ (room_second c.requires c.put_bytes-first.ensures)

pub put_byte-requires : goal.put_byte-requires
put_byte-requires c = room_second (room_second c.requires c.put_bytes-first.ensures) c.put_spaced-last.ensures

pub returns : goal.returns
returns c = put_then c.put_bytes-first.ensures (put_then c.put_spaced-last.ensures c.put_byte.ensures)
