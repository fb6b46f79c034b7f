-- `opening::touch_given` meets its contract. The loop's invariant: the given cells so far are touched. Assumes nothing.
use mathlib.Core.Path.{◌≡◌}
use native.Mathlib.Omega.{arith}
use lib.ListN.{length}
use Rattle.opening.proofs.Touching.{all_none, all_more, all_height, roomy_again}
use Rattle.opening.proofs.Ticking.{ticked_none, ticked_room, ticked_then}
use Rattle.opening.proofs.touch_given.Goals as goal

pub loop-cell-init : goal.loop-cell-init
loop-cell-init c = (all_none _ _ _ _, ticked_none _ _)

pub touch-turn-requires : goal.touch-turn-requires
touch-turn-requires c = record { roomy = roomy_again _ _ _ _ _ _ _ c.requires.roomy c.loop-cell.auto.shown c.loop-cell.auto.work (all_height _ _ _ _ _ _ _ _ c.requires.roomy.valued c.loop-cell.invariant.0); opened_bound = ticked_room c.loop-cell.invariant.1 (omega arith) }

pub loop-cell-preserved : goal.loop-cell-preserved
loop-cell-preserved c = (all_more _ _ _ _ _ _ _ _ _ _ _ _ _ _ c.loop-cell.invariant.0 (rw c.from-q.ensures at c.touch-turn.ensures.0), ticked_then c.loop-cell.invariant.1 c.touch-turn.ensures.1)

pub returns : goal.returns
returns c = let e : c.loop-cell.cell-index ≡ length c.args.given.now = omega arith in (rw e at c.loop-cell.invariant.0, c.loop-cell.invariant.1)
