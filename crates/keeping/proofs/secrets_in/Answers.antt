-- `keeping::secrets_in` meets its contract.
use Rattle.keeping.proofs.Reading.{secrets_read}
use Rattle.keeping.proofs.secrets_in.Goals as goal

pub returns : goal.returns
returns c = secrets_read c.args.s.now c.four_at.ensures c.four_at-2.ensures c.four_at-3.ensures
