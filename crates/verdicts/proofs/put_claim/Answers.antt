use Rattle.writing.proofs.Putting.{room_first, room_second, put_then}
use Rattle.verdicts.proofs.put_claim.Goals as goal

-- src/lib.rt:25:9
pub put_told-first-requires : goal.put_told-first-requires
put_told-first-requires c = room_first _ c.requires

-- src/lib.rt:26:9
pub put_told-next-requires : goal.put_told-next-requires
put_told-next-requires c = room_first _ (room_second c.requires c.put_told-first.ensures)

-- src/lib.rt:27:5
pub put_told-requires : goal.put_told-requires
put_told-requires c = room_second (room_second c.requires c.put_told-first.ensures) c.put_told-next.ensures

-- src/lib.rt:21:1
pub returns : goal.returns
returns c = put_then c.put_told-first.ensures (put_then c.put_told-next.ensures c.put_told.ensures)
