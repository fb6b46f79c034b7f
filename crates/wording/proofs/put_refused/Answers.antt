-- `wording::put_refused` meets its contract.
use mathlib.Core.Path.{sym}
use Rattle.writing.proofs.Putting.{room_first, room_second, room_as, put_then, put_as}
use Rattle.wording.proofs.Lengths.{refused_as}
use Rattle.wording.proofs.put_refused.Goals as goal

pub put_bytes-first-requires : goal.put_bytes-first-requires
put_bytes-first-requires c = room_first _ (room_as (refused_as c.from.ensures) c.requires)

pub put_spaced-requires : goal.put_spaced-requires
put_spaced-requires c = room_second (room_as (refused_as c.from.ensures) c.requires) c.put_bytes-first.ensures

pub returns : goal.returns
returns c = put_as (sym (refused_as c.from.ensures)) (put_then c.put_bytes-first.ensures c.put_spaced.ensures)
