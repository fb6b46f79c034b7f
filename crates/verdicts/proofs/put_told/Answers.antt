use Rattle.writing.proofs.Putting.{room_first, room_second, put_then}
use Rattle.verdicts.proofs.put_told.Goals as goal

-- src/lib.rt:16:9
pub put_bytes-next-requires : goal.put_bytes-next-requires
put_bytes-next-requires c = room_first _ c.requires

-- src/lib.rt:17:5
pub put_spaced-requires : goal.put_spaced-requires
put_spaced-requires c = room_second c.requires c.put_bytes-next.ensures

-- src/lib.rt:11:1
pub returns : goal.returns
returns c = put_then c.put_bytes-next.ensures c.put_spaced.ensures
