-- `packed::position_in` meets its contract: each part is the one at its place.
use Rattle.packed.proofs.Reading.{position_read}
use Rattle.packed.proofs.position_in.Goals as goal

pub returns : goal.returns
returns c = position_read c.args.s.now c.settings_in-settings.ensures c.from-game.ensures c.from-mouse.ensures c.four_at.ensures c.four_at-2.ensures c.counts_in-counts.ensures c.secrets_in-secrets.ensures
