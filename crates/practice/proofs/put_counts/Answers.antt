-- `practice::put_counts` meets its contract: the numbers, then the end of the line.
use Rattle.writing.proofs.Putting.{room_first, room_second}
use Rattle.practice.proofs.Lines.{counts_room, counts_put}
use Rattle.practice.proofs.put_counts.Goals as goal

pub put_spaced-next-requires : goal.put_spaced-next-requires
put_spaced-next-requires c = room_first _ (counts_room c.from.result c.from-2.result c.requires)

pub put_byte-requires : goal.put_byte-requires
put_byte-requires c = room_second (counts_room c.from.result c.from-2.result c.requires) c.put_spaced-next.ensures

pub returns : goal.returns
returns c = rw (c.from.ensures, c.from-2.ensures) at (counts_put c.from.result c.from-2.result c.put_spaced-next.ensures c.put_byte.ensures)
