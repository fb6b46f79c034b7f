-- `packed::secrets_in` meets its contract: each count is the number at its place.
use Rattle.packed.proofs.Reading.{secrets_read}
use Rattle.packed.proofs.secrets_in.Goals as goal

pub returns : goal.returns
returns c = secrets_read c.args.s.now c.four_at.ensures c.four_at-2.ensures c.four_at-3.ensures
