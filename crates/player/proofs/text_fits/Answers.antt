-- `player::text_fits` meets its contract: the code is the definition.
use mathlib.Core.Path.{refl}
use Rattle.player.specs.Rooms.{text_fits}
use Rattle.player.proofs.text_fits.Goals as goal

pub returns : goal.returns
unfolding text_fits
returns c = refl
