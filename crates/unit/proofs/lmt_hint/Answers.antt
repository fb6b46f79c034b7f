-- `unit::lmt_hint` meets its contract.
use mathlib.Core.Path.{ap, ◌∙◌}
use Rattle.unit.specs.Unit.{flat_hint}
use Rattle.unit.proofs.lmt_hint.Goals as goal

pub returns : goal.returns
returns c = c.from.ensures ∙ ap flat_hint c.hint_on.ensures
