-- `keeping::position_in` meets its contract.
use Rattle.keeping.proofs.Reading.{position_read}
use Rattle.keeping.proofs.position_in.Goals as goal

pub returns : goal.returns
returns c = position_read c.args.s.now c.settings_in.ensures c.from.ensures c.from-2.ensures c.four_at.ensures c.four_at-2.ensures c.counts_in.ensures c.secrets_in.ensures
