-- `calls::check_position` meets its contract.
use mathlib.Core.Path.{ap, ◌∙◌}
use Rattle.rules.specs.Calls.{checks}
use Rattle.refusals.proofs.Faults.{check_placeable}
use Rattle.calls.proofs.check_position.Goals as goal

pub found-requires : goal.found-requires
found-requires c = check_placeable _ _ _ c.check_refusal-found.ensures

pub returns : goal.returns
returns c = c.found.ensures ∙ ap (checks _ _ _) c.check_refusal-found.ensures
