-- `refusals::check_refusal` meets its contract.
use mathlib.Core.Path.{sym, ◌∙◌}
use Rattle.refusals.proofs.Refusals.{check_is}
use Rattle.refusals.proofs.check_refusal.Goals as goal

pub position_refusal-requires : goal.position_refusal-requires
position_refusal-requires c = λ e. sym c.boards_fit-fits.ensures ∙ e

pub returns : goal.returns
returns c = check_is _ _ _ _ c.boards_fit-fits.ensures c.position_refusal.ensures
