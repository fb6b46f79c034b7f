-- `writing::put_bytes` meets its contract. The invariant: the bytes not yet taken, written from here on, make the whole word.
use Rattle.writing.proofs.Putting.{leads_start, leads_room, leads_turn, leads_done, bytes_turn, bytes_done}
use Rattle.writing.proofs.put_bytes.Goals as goal

pub loop-b-init : goal.loop-b-init
loop-b-init c = leads_start

pub put_byte-o-requires : goal.put_byte-o-requires
put_byte-o-requires c = leads_room _ _ c.requires c.loop-b.invariant (bytes_turn _ _ c.loop-b-test.true)

pub loop-b-preserved : goal.loop-b-preserved
loop-b-preserved c = leads_turn _ _ c.loop-b.invariant (bytes_turn _ _ c.loop-b-test.true) c.put_byte-o.ensures

pub shape_of-out : goal.shape_of-out
shape_of-out c = c.loop-b.invariant.long

pub returns : goal.returns
returns c = leads_done c.loop-b.invariant (bytes_done _ _ c.loop-b-test.false)
