-- `keeping::take_desk` meets its contract.
use Rattle.keeping.proofs.Slots.{desk_taken}
use Rattle.keeping.proofs.take_desk.Goals as goal

pub returns : goal.returns
returns c = desk_taken c.args.room.now c.args.shown.now c.args.bits.now c.args.at c.requires c.position_in.ensures c.put_bytes.ensures c.put_bytes-2.ensures
