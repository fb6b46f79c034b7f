-- The bytes of a score and what they mean: there and back, whatever the bytes are; and a hint's cell is never 255 255.
use mathlib.Core.Path.{◌≡◌, sym, refl, ap, ap₂}
use mathlib.Core.Bool.{Bool, true, false, ◌&&◌}
use mathlib.Core.List.{List}
use Prim.Native.Nat.{ℕ, ◌*◌, ◌<◌}
use native.Mathlib.Omega.{arith}
use borrow.Author.Tests.{eqb-true, ne_eqb, ltb-true}
use lib.Dec.{ltb, eqb}
use Rattle.rules.specs.declared.Place.TheVariants.{Nowhere, At}
use Rattle.rules.specs.Words.{pick}
use Rattle.rules.specs.Board.{row_byte, column_byte}
use Rattle.rules.specs.Picture.{shown_refusal}
use Rattle.cells.proofs.Grid.{size_limits, on_grid}
use Rattle.cells.proofs.Words.{and_left, and_right}
use Rattle.showing.proofs.Shown.{shown_passed}
use Rattle.rules.specs.declared.Hint.{Hint}
use Rattle.rules.specs.declared.Hint.TheVariants.{Cell, Nothing, Refused}
use Rattle.rules.specs.Trainer.{offered_cell, hint_at, hint_by, hint_of, score}
use Rattle.unit.specs.declared.FlatScore.{FlatScore}
use Rattle.unit.specs.Unit.{score_in, flat_score}

-- ---- there and back ----------------------------------------------------------------------------------------------------------------------

abbrev flat : ℕ → ℕ → ℕ → ℕ → FlatScore
flat a f r c = record { asked = a; followed = f; row = r; column = c }

-- every score's bytes come back as they were given
pub score_back : (f : FlatScore) → flat_score (score_in f) ≡ f
score_back f = go (eqb f.row 255 && eqb f.column 255) refl
  where
    go : (b : Bool) → (eqb f.row 255 && eqb f.column 255) ≡ b
        → flat f.asked f.followed (row_byte (pick b Nowhere (At f.row f.column))) (column_byte (pick b Nowhere (At f.row f.column))) ≡ f
    go true e =
        ap₂ (λ (r c : ℕ). flat f.asked f.followed r c) (sym (eqb-true f.row 255 (and_left _ _ e)))
        (sym (eqb-true f.column 255 (and_right (eqb f.row 255) _ e)))
    go false e = refl

-- a hint at a row below 255 is read as it was written
pub lives_back : (a f r c : ℕ) → r < 255 → score_in (flat_score (score a f (At r c))) ≡ score a f (At r c)
lives_back a f r c h = simp (ne_eqb r 255 (λ e. omega arith))

-- ---- a hint's row ------------------------------------------------------------------------------------------------------------------------

row_in : Hint → ℕ
row_in (Cell row column byRow byColumn) = row
row_in Nothing = 0
row_in (Refused n) = 0

row_below : (R C : ℕ) (shown : List ℕ) → row_in (hint_of R C shown) < 64
unfolding row_in hint_of hint_by
row_below R C shown = go (eqb (shown_refusal R C shown true) 0) refl (ltb (offered_cell R C shown) (R * C)) refl
  where
    go : (a : Bool) → eqb (shown_refusal R C shown true) 0 ≡ a → (b : Bool) → ltb (offered_cell R C shown) (R * C) ≡ b
        → row_in (pick a (pick b (hint_at R C shown (offered_cell R C shown)) Nothing) (Refused (shown_refusal R C shown true))) < 64
    go true e true d =
        let z = size_limits R C (shown_passed R C shown true (eqb-true _ 0 e)).0.size in
        let g = (on_grid R C (offered_cell R C shown) z.column (ltb-true _ _ d)).0 in
        let m = z.rows64 in
        omega arith
    go true e false d = omega arith
    go false e b d = omega arith

-- so no hint's cell is taken for none
pub hint_row : (R C : ℕ) (shown : List ℕ) (r c x y : ℕ) → hint_of R C shown ≡ Cell r c x y → r < 64
unfolding row_in
hint_row R C shown r c x y e = let l = row_below R C shown in let d : row_in (hint_of R C shown) ≡ r = ap row_in e in omega arith
