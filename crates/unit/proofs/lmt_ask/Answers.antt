-- `unit::lmt_ask` meets its contract.
use Rattle.unit.proofs.Making.{ask_flat}
use Rattle.unit.proofs.lmt_ask.Goals as goal

pub returns : goal.returns
returns c = ask_flat c.args.f _ _ _ c.from.ensures c.ask.ensures c.from-2.ensures
