-- `wording::put_cell` meets its contract: the four parts, one after the other.
use mathlib.Core.Path.{sym}
use Rattle.writing.proofs.Putting.{room_first, room_second, room_as, put_then, put_as}
use Rattle.wording.proofs.Lengths.{cell_as}
use Rattle.wording.proofs.put_cell.Goals as goal

pub put_spaced-second-requires : goal.put_spaced-second-requires
put_spaced-second-requires c = room_first _ (room_second (room_as (cell_as c.from.ensures c.from-2.ensures c.from-3.ensures c.from-4.ensures) c.requires) c.put_bytes-first.ensures)

pub put_bytes-third-requires : goal.put_bytes-third-requires
put_bytes-third-requires c = room_first _ (room_second (room_second (room_as (cell_as c.from.ensures c.from-2.ensures c.from-3.ensures c.from-4.ensures) c.requires) c.put_bytes-first.ensures) c.put_spaced-second.ensures)

pub put_spaced-requires : goal.put_spaced-requires
put_spaced-requires c = room_second (room_second (room_second (room_as (cell_as c.from.ensures c.from-2.ensures c.from-3.ensures c.from-4.ensures) c.requires) c.put_bytes-first.ensures) c.put_spaced-second.ensures) c.put_bytes-third.ensures

pub returns : goal.returns
returns c = put_as (sym (cell_as c.from.ensures c.from-2.ensures c.from-3.ensures c.from-4.ensures))
    (put_then c.put_bytes-first.ensures (put_then c.put_spaced-second.ensures (put_then c.put_bytes-third.ensures c.put_spaced.ensures)))
