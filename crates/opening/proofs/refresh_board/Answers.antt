-- `opening::refresh_board` meets its contract, from those of its parts. Assumes nothing.
use Rattle.opening.proofs.Refresh.{roomy_start, work_asks, refreshed_hit, refreshed_safe}
use native.Mathlib.Omega.{arith}
use Rattle.opening.proofs.Ticking.{ticked_room, ticked_then, ticked_crossed}
use Rattle.cells.proofs.Stack.{listed_few}
use Rattle.opening.proofs.refresh_board.Goals as goal

pub touch_given-turn-requires : goal.touch_given-turn-requires
touch_given-turn-requires c = record { roomy = roomy_start _ _ _ _ _ c.requires.laid }

pub work_off-o-requires : goal.work_off-o-requires
work_off-o-requires c = let asks = work_asks _ _ _ _ _ _ _ _ _ _ _ c.requires.laid (listed_few c.args.cells) (rw c.as_slice.ensures at c.touch_given-turn.ensures).0 c.touch_given-turn.auto.work in record { fitting = asks.0; shown_bound = asks.1.0; below = asks.1.1.0; spare = asks.1.1.1; opened_bound = ticked_room c.touch_given-turn.ensures.1 (omega arith) }

pub returns-then-o : goal.returns-then-o
returns-then-o c = (refreshed_hit _ _ _ _ _ _ _ _ _ _ _ c.requires.laid (listed_few c.args.cells) (rw c.as_slice.ensures at c.touch_given-turn.ensures).0 c.touch_given-turn.auto.work _ _ _ c.work_off-o.ensures.0 c.work_off-o.auto.work _ c.if-o.true c.cross_flags.ensures, ticked_crossed _ (ticked_then c.touch_given-turn.ensures.1 c.work_off-o.ensures.1) c.cross_flags.ensures)

pub returns-else-o : goal.returns-else-o
returns-else-o c = (refreshed_safe _ _ _ _ _ _ _ _ _ _ _ c.requires.laid (listed_few c.args.cells) (rw c.as_slice.ensures at c.touch_given-turn.ensures).0 c.touch_given-turn.auto.work _ _ _ c.work_off-o.ensures.0 c.work_off-o.auto.work c.if-o.false, ticked_then c.touch_given-turn.ensures.1 c.work_off-o.ensures.1)
