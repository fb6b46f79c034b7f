-- `refusals::total_refusal` meets its contract.
use Rattle.refusals.proofs.Refusals.{fit_mines, total_is}
use Rattle.refusals.proofs.total_refusal.Goals as goal

pub board_refusal-requires : goal.board_refusal-requires
board_refusal-requires c = λ e. fit_mines _ _ c.args.mines.now c.args.work.now _ c.cell_count-cells.ensures.0 e

pub returns : goal.returns
returns c = total_is _ _ _ _ _ _ c.cell_count-cells.ensures.0 c.board_refusal.ensures
