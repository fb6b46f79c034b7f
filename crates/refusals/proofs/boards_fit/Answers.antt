-- `refusals::boards_fit` meets its contract.
use Rattle.refusals.proofs.Refusals.{boards_are}
use Rattle.refusals.proofs.boards_fit.Goals as goal

pub returns : goal.returns
returns c = boards_are _ _ c.cell_count-cells.ensures.0 _ _ _
