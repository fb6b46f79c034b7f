-- `rows::moves` meets its contract.
use mathlib.Core.Path.{ap, sym, ◌∙◌}
use mathlib.Core.Bool.{not}
use borrow.Author.Tests.{not-false}
use Rattle.rows.proofs.Runs.{moves_none, moves_more}
use Rattle.rows.proofs.moves.Goals as goal

pub loop-n-init : goal.loop-n-init
loop-n-init c = moves_none _ _ _

pub loop-n-preserved : goal.loop-n-preserved
loop-n-preserved c = moves_more _ _ _ _ c.loop-n.invariant (sym c.is_move.ensures ∙ not-false _ (ap not c.if-not-is_move.false))
