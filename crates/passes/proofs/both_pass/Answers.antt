-- `passes::both_pass` meets its contract. The loop: the turns from here lead to the outcome, and the closed cells bound them.
use mathlib.Core.Path.{ap, sym, ◌∙◌}
use lib.ListN.{length}
use Rattle.passes.proofs.Turns.{turning_start, turning_asks, turning_turn, turning_less, turning_done}
use Rattle.passes.proofs.both_pass.Goals as goal

pub loop-go-init : goal.loop-go-init
loop-go-init c = turning_start _ _ _ c.requires

pub both_round-r-requires : goal.both_round-r-requires
both_round-r-requires c = turning_asks _ _ _ c.requires _ _ _ c.loop-go.invariant

pub loop-go-smaller : goal.loop-go-smaller
loop-go-smaller c = turning_less _ _ _ c.requires _ _ _ c.loop-go.invariant c.loop-go-test.true _ _ _ c.both_round-r.ensures

pub loop-go-preserved : goal.loop-go-preserved
loop-go-preserved c = turning_turn _ _ _ c.requires _ _ _ c.loop-go.invariant c.loop-go-test.true _ _ _ c.both_round-r.ensures

pub shape_of-shown : goal.shape_of-shown
shape_of-shown c = c.loop-go.invariant.loop.fine.sits.board ∙ sym c.requires.laid.fits.board

pub shape_of-bits : goal.shape_of-bits
shape_of-bits c = c.loop-go.invariant.loop.fine.bytes

pub shape_of-work : goal.shape_of-work
shape_of-work c = ap length c.loop-go.invariant.back

pub returns : goal.returns
returns c = turning_done _ _ _ c.requires _ _ _ c.loop-go.invariant c.loop-go-test.false
