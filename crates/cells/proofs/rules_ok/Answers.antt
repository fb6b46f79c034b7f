-- `cells::rules_ok` meets its contract.
use mathlib.Core.Path.{refl}
use Rattle.rules.specs.Mouse.{rules_ok}
use Rattle.cells.proofs.rules_ok.Goals as goal

pub returns : goal.returns
unfolding rules_ok
returns c = refl
