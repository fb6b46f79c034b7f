-- `opening::cross_flags` meets its contract. The loop's invariant: the first i flags are crossed, and the cells from i on are as they were. Assumes nothing.
use mathlib.Core.Path.{◌≡◌}
use native.Mathlib.Omega.{arith}
use lib.ListN.{length}
use Rattle.opening.proofs.Refresh.{crossed_none, crossed_more}
use Rattle.opening.proofs.cross_flags.Goals as goal

pub loop-i-init : goal.loop-i-init
loop-i-init c = crossed_none _ _

pub cross_flag-requires : goal.cross_flag-requires
cross_flag-requires c = record { i_in_bounds = omega arith; mines_len = omega arith; valued = c.requires.valued }

pub loop-i-preserved : goal.loop-i-preserved
loop-i-preserved c = crossed_more _ _ _ _ _ c.loop-i.invariant c.cross_flag.ensures

pub returns : goal.returns
returns c = let e : c.loop-i.i ≡ length c.args.shown.now = omega arith in rw e at c.loop-i.invariant
