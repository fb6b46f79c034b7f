-- `player::enough` meets its contract: the code is the definition.
use Rattle.player.specs.Rooms.{enough}
use Rattle.player.proofs.enough.Goals as goal

pub returns : goal.returns
unfolding enough
returns c = rw c.text_fits.ensures
