-- `calls::check_board` meets its contract.
use mathlib.Core.Path.{ap, ◌∙◌}
use Rattle.rules.specs.Calls.{checks}
use Rattle.refusals.proofs.Faults.{check_board_placeable}
use Rattle.calls.proofs.check_board.Goals as goal

pub found-requires : goal.found-requires
found-requires c = check_board_placeable _ _ _ _ c.board_check-found.ensures

pub returns : goal.returns
returns c = c.found.ensures ∙ ap (checks _ _ _) c.board_check-found.ensures
