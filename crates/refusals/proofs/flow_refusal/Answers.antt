-- `refusals::flow_refusal` meets its contract.
use mathlib.Core.Path.{◌∙◌, sym}
use Rattle.cells.proofs.Words.{and_left}
use Rattle.refusals.proofs.Refusals.{flow_is}
use Rattle.refusals.proofs.flow_refusal.Goals as goal

pub position_refusal-requires : goal.position_refusal-requires
position_refusal-requires c = λ e. sym c.boards_fit-boards.ensures ∙ and_left _ _ e

pub returns : goal.returns
returns c = flow_is _ c.args.events.now _ _ _ _ _ c.boards_fit-boards.ensures c.work_fits-room.ensures c.position_refusal.ensures
