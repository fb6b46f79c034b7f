-- `cells::mode_ok` meets its contract.
use mathlib.Core.Path.{refl}
use Rattle.rules.specs.Calls.{mode_ok}
use Rattle.cells.proofs.mode_ok.Goals as goal

pub returns : goal.returns
unfolding mode_ok
returns c = refl
