-- `noflag_board::forbidden` meets its contract: the code is the definition.
use mathlib.Core.Path.{refl}
use Rattle.rules.specs.Noflag.{forbidden}
use Rattle.noflag_board.proofs.forbidden.Goals as goal

pub returns : goal.returns
unfolding forbidden
returns c = refl
