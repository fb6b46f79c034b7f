-- `opening::touch_around` meets its contract. The loop's invariant: the first k neighbours are touched, and the lengths are as they were. Assumes nothing.
use mathlib.Core.Path.{◌≡◌, refl, ◌∙◌}
use native.Mathlib.Omega.{arith}
use Rattle.cells.proofs.Grid.{neighbour_at}
use Rattle.opening.proofs.Touching.{around_none, around_more, around_height, roomy_again}
use Rattle.opening.proofs.Ticking.{ticked_none, ticked_room, ticked_then}
use Rattle.opening.proofs.touch_around.Goals as goal

pub loop-k-init : goal.loop-k-init
loop-k-init c = (omega arith, around_none _ _ _ _ _ _ _ _, refl, refl, ticked_none _ _)

pub neighbour_at-q-requires : goal.neighbour_at-q-requires
neighbour_at-q-requires c = record { sized = c.requires.seated.sized; row_lt_rows = c.requires.row_lt_rows; k_bound = omega arith }

pub touch-turn-requires : goal.touch-turn-requires
touch-turn-requires c = record { roomy = roomy_again _ _ _ _ _ _ _ c.requires.seated.roomy c.loop-k.invariant.2 c.loop-k.invariant.3 (around_height _ _ _ _ _ _ _ _ _ c.requires.seated.roomy.valued _ _ _ _ c.loop-k.invariant.1); opened_bound = ticked_room c.loop-k.invariant.4 c.requires.opened_bound }

pub loop-k-preserved : goal.loop-k-preserved
loop-k-preserved c = (omega arith, around_more _ _ _ _ _ _ _ _ _ _ _ _ _ _ _ _ _ (c.neighbour_at-q.ensures ∙ neighbour_at _ _ _ _ _ c.requires.row_lt_rows.1) c.loop-k.invariant.1 c.touch-turn.ensures.0, c.touch-turn.auto.shown ∙ c.loop-k.invariant.2, c.touch-turn.auto.work ∙ c.loop-k.invariant.3, ticked_then c.loop-k.invariant.4 c.touch-turn.ensures.1)

pub shape_of-shown : goal.shape_of-shown
shape_of-shown c = c.loop-k.invariant.2

pub shape_of-work : goal.shape_of-work
shape_of-work c = c.loop-k.invariant.3

pub returns : goal.returns
returns c = let e : c.loop-k.k ≡ 8 = omega arith in (rw e at c.loop-k.invariant.1, c.loop-k.invariant.4)
