-- `keeping::states` meets its contract: each byte as its function gives it.
use Rattle.cells.proofs.Words.{byte_bit}
use Rattle.keeping.proofs.Slots.{states_are}
use Rattle.keeping.proofs.states.Goals as goal

pub returns : goal.returns
returns c = states_are c.args.p (byte_bit _ c.from.ensures).0 c.from-2.ensures c.from-3.ensures (byte_bit _ c.from-4.ensures).0
