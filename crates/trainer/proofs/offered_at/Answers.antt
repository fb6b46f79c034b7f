-- `trainer::offered_at` meets its contract: some neighbour justifies the cell exactly where there is a first.
use mathlib.Core.Path.{◌∙◌, ap}
use Rattle.std.specs.Option.{is_some}
use Rattle.trainer.proofs.Firsts.{found_some}
use Rattle.trainer.proofs.Hints.{offered_shut, offered_by}
use Rattle.trainer.proofs.offered_at.Goals as goal

pub returns-then-shown-cell-ne10 : goal.returns-then-shown-cell-ne10
returns-then-shown-cell-ne10 c = offered_shut _ _ _ _ c.if-shown-cell-ne10.true

pub returns : goal.returns
returns c = c.is_some.ensures ∙ ap is_some c.justifier_of.ensures ∙ found_some 8 _ ∙ offered_by _ _ _ _ c.if-shown-cell-ne10.false
