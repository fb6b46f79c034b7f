-- `opening::work_off` meets its contract. The invariant is `Going`; the measure, the stack's height and the closed cells together, falls at every turn. Assumes nothing.
use mathlib.Core.Path.{sym, ◌∙◌}
use native.Mathlib.Omega.{arith}
use Rattle.opening.proofs.Going.{going_start, going_asks, going_turn, going_done}
use Rattle.opening.proofs.Ticking.{ticked_none, ticked_room, ticked_then}
use Rattle.opening.proofs.work_off.Goals as goal

pub loop-turn-init : goal.loop-turn-init
loop-turn-init c = (going_start _ _ _ _ _ _ _ c.requires.fitting c.requires.shown_bound c.requires.below c.requires.spare, ticked_none _ _)

pub spread_top-turn-requires : goal.spread_top-turn-requires
spread_top-turn-requires c = let asks = going_asks _ _ _ _ _ _ _ _ _ _ _ c.loop-turn.invariant.0 c.requires.fitting c.loop-turn-test.true in record { seated = asks.0; top_nonzero = asks.1.0; top_bound = asks.1.1; opened_bound = ticked_room c.loop-turn.invariant.1 c.requires.opened_bound }

pub loop-turn-smaller : goal.loop-turn-smaller
loop-turn-smaller c = (going_turn _ _ _ _ _ _ _ _ _ _ _ c.loop-turn.invariant.0 _ _ _ _ c.requires.fitting c.loop-turn-test.true c.spread_top-turn.ensures.0 c.spread_top-turn.auto.work).1

pub loop-turn-preserved : goal.loop-turn-preserved
loop-turn-preserved c = ((going_turn _ _ _ _ _ _ _ _ _ _ _ c.loop-turn.invariant.0 _ _ _ _ c.requires.fitting c.loop-turn-test.true c.spread_top-turn.ensures.0 c.spread_top-turn.auto.work).0, ticked_then c.loop-turn.invariant.1 c.spread_top-turn.ensures.1)

pub shape_of-shown : goal.shape_of-shown
shape_of-shown c = c.loop-turn.invariant.0.board ∙ sym c.requires.fitting.board

pub shape_of-work : goal.shape_of-work
shape_of-work c = c.loop-turn.invariant.0.long

pub returns : goal.returns
returns c = (going_done _ _ _ _ _ _ _ _ _ _ _ c.loop-turn.invariant.0 (omega arith), c.loop-turn.invariant.1)
