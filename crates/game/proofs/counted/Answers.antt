-- `game::counted` meets its contract.
use mathlib.Core.Path.{refl}
use Rattle.game.proofs.counted.Goals as goal

pub returns : goal.returns
returns c = rw c.with_events-position.ensures refl
