-- `refusals::refuse` meets its contract.
use mathlib.Core.Path.{ap}
use Rattle.rules.specs.declared.Place.{Place}
use Rattle.refusals.proofs.refuse.Goals as goal

pub returns : goal.returns
returns c = ap (λ (x : Place). record { number = c.args.n; place = x; position = c.args.p; value = 0 }) c.fault_of.ensures
