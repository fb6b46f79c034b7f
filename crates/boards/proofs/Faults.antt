-- The place beside 22 and 23 is the first cell that fails the test, and no other number has one.
use mathlib.Core.Path.{◌≡◌, refl, ap, ◌∙◌, subst}
use mathlib.Core.Bool.{Bool, true, false}
use mathlib.Core.List.{List}
use Prim.Native.Nat.{ℕ, ◌*◌, ◌/◌, ◌%◌, ◌<◌, ◌≤◌}
use native.Mathlib.Nat.{mul-le-mul_right}
use native.Mathlib.Omega.{arith}
use borrow.Author.Tests.{ne_eqb}
use lib.ListN.{length}
use lib.IntN.{ℤ}
use Rattle.rules.specs.declared.Place.TheVariants.{Nowhere}
use Rattle.rules.specs.Words.{unless, every, first_not}
use Rattle.rules.specs.Grid.{size_ok}
use Rattle.rules.specs.Board.{value_ok_at, values_ok, number_ok, numbers_ok, some_safe, board_refusal, place_of, fault_of}
use Rattle.cells.specs.Ground.{Sized}
use Rattle.cells.proofs.Words.{every_at}
use Rattle.cells.proofs.Firsts.{first_le, first_fails}
use Rattle.cells.proofs.Face.{values_valued}
use Rattle.cells.proofs.Grid.{size_limits, on_grid, cell_back}
use Rattle.boards.specs.Faults.{Placeable, FirstWrong}

-- ---- the search ------------------------------------------------------------------------------------------------------------------------

pub fault_within : (R C : ℕ) (B : List ℤ) (f : ℕ → Bool) (n : ℕ) → Sized R C → length B ≡ R * C → n ≡ first_not f (length B) → (1 ≤ C) × (n ≤ 64 * C)
fault_within R C B f n s l e =
    let h = first_le f (length B) in
    let k = mul-le-mul_right C s.rows64 in
    (s.column, omega arith)

module _ (R C : ℕ) (B : List ℤ) (n : ℕ) where
  pub fault_22 : n ≡ 22 → place_of C (first_not (value_ok_at B) (length B)) ≡ fault_of R C B n
  unfolding fault_of
  fault_22 e = simp e

  pub fault_23 : n ≡ 23 → place_of C (first_not (number_ok B R C) (length B)) ≡ fault_of R C B n
  unfolding fault_of
  fault_23 e = simp e

  -- every other number has no place
  pub place_none : (n ≡ 22 → ⊥) → (n ≡ 23 → ⊥) → fault_of R C B n ≡ Nowhere
  unfolding fault_of
  place_none a b = simp (ne_eqb n 22 a, ne_eqb n 23 b)

-- ---- what a number says of the board ---------------------------------------------------------------------------------------------------

-- a number that a chain gives is that of its first row, or of the rest
pub heard : (k : ℕ) (b : Bool) (rest n : ℕ) → unless k b rest ≡ n → (k ≡ n → ⊥) → (b ≡ true) × (rest ≡ n)
heard k true rest n e h = (refl, e)
heard k false rest n e h = absurd (h e)

-- and its own test fails where the rest does not give it
failed : (k : ℕ) (b : Bool) (rest : ℕ) → unless k b rest ≡ k → (rest ≡ k → ⊥) → b ≡ false
failed k true rest e h = absurd (h e)
failed k false rest e h = refl

module _ (R C : ℕ) (fit : Bool) (B : List ℤ) where
  said_22 : board_refusal R C fit B ≡ 22 → (size_ok R C ≡ true) × (fit ≡ true) × (values_ok B ≡ false)
  unfolding board_refusal
  said_22 e =
      let a = heard 20 (size_ok R C) _ 22 e (λ (q : 20 ≡ 22). omega arith) in
      let b = heard 21 fit _ 22 a.1 (λ (q : 21 ≡ 22). omega arith) in
      (a.0, b.0, failed 22 (values_ok B) _ b.1 (λ r. after_22 (heard 23 (numbers_ok B R C) _ 22 r (λ (q : 23 ≡ 22). omega arith)).1))
    where
      after_22 : unless 24 (some_safe B) 0 ≡ 22 → ⊥
      after_22 r = let d = (heard 24 (some_safe B) 0 22 r (λ (q : 24 ≡ 22). omega arith)).1 in omega arith

  said_23 : board_refusal R C fit B ≡ 23 → (size_ok R C ≡ true) × (fit ≡ true) × (values_ok B ≡ true) × (numbers_ok B R C ≡ false)
  unfolding board_refusal
  said_23 e =
      let a = heard 20 (size_ok R C) _ 23 e (λ (q : 20 ≡ 23). omega arith) in
      let b = heard 21 fit _ 23 a.1 (λ (q : 21 ≡ 23). omega arith) in
      let v = heard 22 (values_ok B) _ 23 b.1 (λ (q : 22 ≡ 23). omega arith) in
      (a.0, b.0, v.0, failed 23 (numbers_ok B R C) _ v.1 after_23)
    where
      after_23 : unless 24 (some_safe B) 0 ≡ 23 → ⊥
      after_23 r = let d = (heard 24 (some_safe B) 0 23 r (λ (q : 24 ≡ 23). omega arith)).1 in omega arith

  module _ (long : fit ≡ true → length B ≡ R * C) where
    pub placeable : (n : ℕ) → (n ≡ 22 → board_refusal R C fit B ≡ 22) → (n ≡ 23 → board_refusal R C fit B ≡ 23) → Placeable R C B n
    placeable n h k = record {
      sized = λ e. let a = said_22 (h e) in (size_limits R C a.0, long a.1);
      valued = λ e. let a = said_23 (k e) in record { sized = size_limits R C a.0; long = long a.1; valued = values_valued B a.2 };
    }

    found : (test : ℕ → Bool) → Sized R C → length B ≡ R * C → every test (length B) ≡ false → FirstWrong R C test (place_of C (first_not test (length B)))
    found test s l e =
        let i = first_not test (length B) in
        let h = first_fails test (length B) e in
        let q = cell_back C i in
        let lt = h.0 in
        let g = on_grid R C i s.column (omega arith) in
        record {
          row = i / C;
          column = i % C;
          here = refl;
          rows = g.0;
          columns = g.1;
          fails = ap test q ∙ h.2;
          before = λ j k. every_at test i h.1 j (subst (λ m. j < m) q k);
        }

    -- 22: the place is a cell of the board whose value is wrong, and every value before it is right
    pub place_22 : board_refusal R C fit B ≡ 22 → FirstWrong R C (value_ok_at B) (fault_of R C B 22)
    unfolding values_ok
    place_22 e =
        let a = said_22 e in
        subst (FirstWrong R C (value_ok_at B)) (fault_22 R C B 22 refl) (found (value_ok_at B) (size_limits R C a.0) (long a.1) a.2)

    -- 23: the place is a cell of the board whose number is wrong, every number before it is right, and so is every value
    pub place_23 : board_refusal R C fit B ≡ 23 → (values_ok B ≡ true) × FirstWrong R C (number_ok B R C) (fault_of R C B 23)
    unfolding numbers_ok
    place_23 e =
        let a = said_23 e in
        (a.2, subst (FirstWrong R C (number_ok B R C)) (fault_23 R C B 23 refl) (found (number_ok B R C) (size_limits R C a.0) (long a.1) a.3))
