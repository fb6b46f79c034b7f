-- `console::lm_check_board` meets its contract.
use mathlib.Core.Path.{ap, ◌∙◌}
use Rattle.flats.specs.Flat.{flat_value}
use Rattle.console.proofs.lm_check_board.Goals as goal

pub returns : goal.returns
returns c = c.from.ensures ∙ ap flat_value c.check_board-v.ensures
