-- `chording::chord_round` meets its contract. The loop: the cells before this one are chorded, or passed over.
use mathlib.Core.Path.{◌≡◌, refl, ap, sym, ◌∙◌}
use Prim.Native.Nat.{◌*◌}
use native.Mathlib.Omega.{arith}
use lib.ListN.{length}
use Rattle.chording.proofs.Seeking.{first_whole}
use Rattle.chording.proofs.Chording.{scanning_start, scanning_sits, scanning_asks, scanning_turn, scanning_over, scanning_done}
use Rattle.chording.proofs.chord_round.Goals as goal

pub overflow_mul-cells : goal.overflow_mul-cells
overflow_mul-cells c = rw (c.from-rows.ensures, c.from-columns.ensures) (omega (arith, c.requires.laid_at.fits.mined.sized.cells))

pub useful_below-i-requires : goal.useful_below-i-requires
useful_below-i-requires c = record { sized = rw (c.from-rows.ensures, c.from-columns.ensures) c.requires.laid_at.fits.mined.sized; from_le_rows = omega arith; shown_len = rw (c.from-rows.ensures, c.from-columns.ensures) c.requires.laid_at.fits.board }

pub loop-i-init : goal.loop-i-init
loop-i-init c = (c.useful_below-i.ensures.most, scanning_over _ _ _ _ c.requires.laid_at c.requires.pass_room_at _ _ _ _ (scanning_start _ _ _ _) _ (first_whole _ _ _ _ (rw (c.from-rows.ensures, c.from-columns.ensures) at c.useful_below-i.ensures)))

pub chord_one-t-requires : goal.chord_one-t-requires
chord_one-t-requires c = let whole = scanning_asks _ _ _ _ c.requires.laid_at c.requires.pass_room_at _ _ _ _ c.loop-i.invariant.1 (rw (c.from-rows.ensures, c.from-columns.ensures) at c.loop-i-test.true) in record { laid_at = whole.0; cell_bound = whole.1.0; pass_room_at = whole.1.1 }

pub next_useful-i-requires : goal.next_useful-i-requires
next_useful-i-requires c = record { sized = rw (c.from-rows.ensures, c.from-columns.ensures) c.requires.laid_at.fits.mined.sized; cell_bound = c.loop-i-test.true; shown_len = rw (c.from-rows.ensures, c.from-columns.ensures) (scanning_sits _ _ _ _ c.requires.laid_at c.requires.pass_room_at _ _ _ _ (scanning_turn _ _ _ _ c.requires.laid_at c.requires.pass_room_at _ _ _ _ c.loop-i.invariant.1 _ _ _ c.chord_one-t.ensures)).board }

pub loop-i-smaller : goal.loop-i-smaller
loop-i-smaller c = omega (arith, c.next_useful-i.ensures.up)

pub loop-i-preserved : goal.loop-i-preserved
loop-i-preserved c = (c.next_useful-i.ensures.most, scanning_over _ _ _ _ c.requires.laid_at c.requires.pass_room_at _ _ _ _ (scanning_turn _ _ _ _ c.requires.laid_at c.requires.pass_room_at _ _ _ _ c.loop-i.invariant.1 _ _ _ c.chord_one-t.ensures) _ (rw (c.from-rows.ensures, c.from-columns.ensures) at c.next_useful-i.ensures))

pub shape_of-shown : goal.shape_of-shown
shape_of-shown c = (scanning_sits _ _ _ _ c.requires.laid_at c.requires.pass_room_at _ _ _ _ c.loop-i.invariant.1).board ∙ sym c.requires.laid_at.fits.board

pub shape_of-work : goal.shape_of-work
shape_of-work c = ap length c.loop-i.invariant.1.back

pub returns : goal.returns
returns c =
    let e : c.loop-i.i ≡ c.from-rows.result * c.from-columns.result = omega arith in
    scanning_done _ _ _ _ c.requires.laid_at c.requires.pass_room_at _ _ _ _ c.loop-i.invariant.1 _ (rw (c.from-rows.ensures, c.from-columns.ensures) at e) refl
