-- `chording::chord_pass` meets its contract. The loop: the rounds from here lead to the outcome, and the closed cells bound them.
use mathlib.Core.Path.{refl, ap, sym, ◌∙◌}
use mathlib.Core.List.{[]}
use lib.ListN.{length}
use Rattle.chording.proofs.Chording.{passing_start, passing_asks, passing_turn, passing_less, passing_done}
use Rattle.chording.proofs.chord_pass.Goals as goal

pub loop-go-init : goal.loop-go-init
loop-go-init c = passing_start _ _ _ _ c.requires.laid_at c.requires.pass_room_at

pub chord_round-s-requires : goal.chord_round-s-requires
chord_round-s-requires c = let whole = passing_asks _ _ _ _ c.requires.laid_at _ _ _ _ c.loop-go.invariant in record { laid_at = whole.0; pass_room_at = whole.1 }

pub loop-go-smaller : goal.loop-go-smaller
loop-go-smaller c = passing_less _ _ _ _ c.requires.laid_at _ _ _ _ c.loop-go.invariant c.loop-go-test.true _ _ _ _ c.chord_round-s.ensures c.goes_on-go.ensures

pub loop-go-preserved : goal.loop-go-preserved
loop-go-preserved c = passing_turn _ _ _ _ c.requires.laid_at _ _ _ _ c.loop-go.invariant c.loop-go-test.true _ _ _ _ c.chord_round-s.ensures c.goes_on-go.ensures

pub shape_of-shown : goal.shape_of-shown
shape_of-shown c = (c.loop-go.invariant.loop []).fine.board ∙ sym c.requires.laid_at.fits.board

pub shape_of-work : goal.shape_of-work
shape_of-work c = ap length c.loop-go.invariant.back

pub returns : goal.returns
returns c = passing_done _ _ _ _ c.requires.laid_at _ _ _ _ c.loop-go.invariant _ refl c.loop-go-test.false
