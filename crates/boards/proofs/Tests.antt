-- What the board check needs of its definitions: products of bytes, the signed tests of a value, numbers by faces, and the refusals by cases.
use mathlib.Core.Path.{◌≡◌, refl, ap, ap₂, sym, ◌∙◌}
use mathlib.Core.Bool.{Bool, true, false, not, ◌&&◌, ◌||◌}
use mathlib.Core.List.{List}
use Prim.Native.Nat.{ℕ, ◌*◌}
use borrow.Author.Tests.{ltb-false, eq-eqb, ne_eqb, not-true, not-false}
use lib.Dec.{eqb, ltb}
use lib.ListN.{length, get_or-eq_default}
use lib.IntN.{ℤ, pos}
use mir.Syntax.{w8}
use mir.Val.{SFits, to_z, of_z}
use mir.ValLaws.{to_z-of_z}
use Rattle.rules.specs.Words.{unless}
use Rattle.rules.specs.Grid.{size_ok, around}
use Rattle.rules.specs.Board.{face, face_at, mine_at, value_ok, values_ok, number_ok, numbers_ok, some_safe, board_refusal}
use Rattle.cells.specs.Ground.{face_is, Mined}
use Rattle.cells.proofs.Face.{values_valued}
use Rattle.cells.proofs.Grid.{around_same, size_limits}

-- ---- a value -----------------------------------------------------------------------------------------------------------------------------

-- a value that is passed on is read back from its bits
pub value_passed : (z : ℤ) → SFits w8 z → {r t : Bool} → r ≡ value_ok (to_z w8 (of_z w8 z)) → r ≡ t → value_ok z ≡ t
value_passed z f e u = sym (ap value_ok (to_z-of_z w8 z f)) ∙ sym e ∙ u

-- ---- the numbers -------------------------------------------------------------------------------------------------------------------------

-- a mine is a cell of the board with the face 15
pub mine_face : (B : List ℤ) (q : ℕ) → face_is B 15 q ≡ mine_at B q
mine_face B q = go (ltb q (length B)) refl
  where
    go : (b : Bool) → ltb q (length B) ≡ b → (b && mine_at B q) ≡ mine_at B q
    go true e = refl
    go false e = sym (ap (λ (z : ℤ). eqb (face z) 15) (get_or-eq_default B (pos 0) (ltb-false q (length B) e)))

module _ (B : List ℤ) (R C i : ℕ) where
  pub number_mine : face_at B i ≡ 15 → true ≡ number_ok B R C i
  unfolding number_ok
  number_mine e = simp (eq-eqb _ _ e)

  pub number_safe : (f n : ℕ) → f ≡ face_at B i → (f ≡ 15 → ⊥) → n ≡ around R C (face_is B 15) i → eqb f n ≡ number_ok B R C i
  unfolding number_ok
  number_safe f n e ne d =
      ap₂ eqb e (d ∙ around_same R C (face_is B 15) (mine_at B) i (mine_face B))
      ∙ sym (ap (λ (b : Bool). b || eqb (face_at B i) (around R C (mine_at B) i)) (ne_eqb _ _ (λ h. ne (e ∙ h))))

-- ---- the refusals ------------------------------------------------------------------------------------------------------------------------

-- what a test of the code says of the definition that it answers
pub says_no : {r t : Bool} → r ≡ t → not r ≡ true → t ≡ false
says_no e h = sym e ∙ not-true _ h

pub says_yes : {r t : Bool} → r ≡ t → not r ≡ false → t ≡ true
says_yes e h = sym e ∙ not-false _ h

-- rows and columns as the code widens them
module _ (B : List ℤ) {r c R C : ℕ} (er : r ≡ R) (ec : c ≡ C) where
  pub mined_wide : Mined B R C → Mined B r c
  mined_wide m = rw (er, ec) m

  pub mined_at : size_ok R C ≡ true → length B ≡ R * C → values_ok B ≡ true → Mined B r c
  mined_at s l v = mined_wide (record { sized = size_limits R C s; long = l; valued = values_valued B v })

  pub numbers_at : {x : Bool} → x ≡ numbers_ok B r c → x ≡ numbers_ok B R C
  numbers_at e = e ∙ ap₂ (numbers_ok B) er ec

module _ (R C : ℕ) (fit : Bool) (B : List ℤ) where
  pub refused_size : size_ok R C ≡ false → 20 ≡ board_refusal R C fit B
  unfolding board_refusal
  refused_size s = simp s

  pub refused_fit : size_ok R C ≡ true → fit ≡ false → 21 ≡ board_refusal R C fit B
  unfolding board_refusal
  refused_fit s f = simp (s, f)

  pub refused_values : size_ok R C ≡ true → fit ≡ true → values_ok B ≡ false → 22 ≡ board_refusal R C fit B
  unfolding board_refusal
  refused_values s f v = simp (s, f, v)

  pub refused_numbers : size_ok R C ≡ true → fit ≡ true → values_ok B ≡ true → numbers_ok B R C ≡ false → 23 ≡ board_refusal R C fit B
  unfolding board_refusal
  refused_numbers s f v n = simp (s, f, v, n)

  -- with 24 for no safe cell
  pub refused_last : {b : Bool} → size_ok R C ≡ true → fit ≡ true → values_ok B ≡ true → numbers_ok B R C ≡ true → some_safe B ≡ b → unless 24 b 0 ≡ board_refusal R C fit B
  unfolding board_refusal
  refused_last s f v n m = simp (s, f, v, n, m)
