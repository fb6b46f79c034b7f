-- `cells::ring_zero` meets its contract. The loop: whether a place before this one is a 0.
use Prim.Native.Nat.{ℕ}
use mathlib.Core.Path.{refl, ap, sym, ◌∙◌}
use native.Mathlib.Omega.{arith}
use lib.Dec.{eqb, leb}
use Rattle.rules.specs.Words.{count}
use Rattle.cells.specs.Ground.{ring_at, face_is}
use Rattle.cells.proofs.Words.{some_turn}
use Rattle.cells.proofs.Grid.{ring_le, ring_done}
use Rattle.cells.proofs.Face.{face_on}
use Rattle.cells.proofs.ring_zero.Goals as goal

pub loop-k-init : goal.loop-k-init
unfolding count
loop-k-init c = (omega arith, refl)

pub face_at-face-requires : goal.face_at-face-requires
face_at-face-requires c = record { cell_in_bounds = omega (arith, ring_le c.args.columns c.args.first c.loop-k.k c.loop-k-test.true, c.ring_at-q.ensures, c.requires.columns_bound, c.requires.columns_in_bounds, c.requires.mines_len_bound, c.requires.valued); valued = c.requires.valued }

pub loop-k-preserved : goal.loop-k-preserved
loop-k-preserved c = (
  omega arith,
  some_turn (λ j. face_is c.args.mines.now 0 (ring_at c.args.columns c.args.first j)) c.loop-k.k _ _ c.loop-k.invariant.1
      (ap (λ (x : ℕ). eqb x 0) c.face_at-face.ensures ∙ sym (face_on c.args.mines.now 0 c.ring_at-q.result (omega (arith, ring_le c.args.columns c.args.first c.loop-k.k c.loop-k-test.true, c.ring_at-q.ensures, c.requires.columns_bound, c.requires.columns_in_bounds, c.requires.mines_len_bound, c.requires.valued))) ∙ ap (face_is c.args.mines.now 0) c.ring_at-q.ensures),
)

pub returns : goal.returns
returns c = c.loop-k.invariant.1 ∙ ap (leb 1) (ring_done c.args.columns c.args.first (face_is c.args.mines.now 0) c.loop-k.k _ (omega arith) refl)
