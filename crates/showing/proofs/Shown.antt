-- Values that a cell can show, boards that show nothing else, and the refusals of a shown board by cases.
use mathlib.Core.Path.{◌≡◌, refl, ap, sym, ◌∙◌}
use mathlib.Core.Bool.{Bool, true, false, true≢false, ◌&&◌}
use mathlib.Core.List.{List}
use Prim.Native.Nat.{ℕ, ◌*◌, ◌<◌, ◌≤◌}
use native.Mathlib.Omega.{arith}
use borrow.Author.Tests.{leb-true, leb-false, lt-leb, ne_eqb, eq-eqb, eqb-true}
use lib.Dec.{leb, eqb}
use lib.ListN.{length, get_or}
use Rattle.std.specs.Bool.{MatchBool}
use Rattle.std.specs.List.{AllWithin, HoldsAt}
use Rattle.rules.specs.Words.{unless}
use Rattle.rules.specs.Grid.{size_ok}
use Rattle.rules.specs.Picture.{is_shown, all_shown, shown_refusal}
use Rattle.cells.proofs.Words.{and_left, and_right, every_at, every_all, every_fails, unless_passed}

-- no value above 17 is shown
pub shown_high : (v : ℕ) → 17 < v → is_shown v ≡ false
unfolding is_shown
shown_high v h =
    simp (lt-leb v 8 (omega arith), ne_eqb v 10 (λ e. omega arith), ne_eqb v 11 (λ e. omega arith), ne_eqb v 14 (λ e. omega arith), ne_eqb v 15 (λ e. omega arith), ne_eqb v 17 (λ e. omega arith))

pub shown_most : (v : ℕ) → is_shown v ≡ true → v ≤ 17
shown_most v e = go (leb v 17) refl
  where
    go : (b : Bool) → leb v 17 ≡ b → v ≤ 17
    go true l = leb-true v 17 l
    go false l = absurd (true≢false (sym e ∙ shown_high v (leb-false v 17 l)))

-- ---- a whole board -----------------------------------------------------------------------------------------------------------------------

module _ (shown : List ℕ) where
  pub all_at : all_shown shown ≡ true → (i : ℕ) → i < length shown → is_shown (get_or shown i 0) ≡ true
  unfolding all_shown
  all_at e = every_at (λ k. is_shown (get_or shown k 0)) (length shown) e

  pub at_all : ((i : ℕ) → i < length shown → is_shown (get_or shown i 0) ≡ true) → all_shown shown ≡ true
  unfolding all_shown
  at_all h = every_all (λ k. is_shown (get_or shown k 0)) (length shown) h

  pub all_fails : (i : ℕ) → i < length shown → is_shown (get_or shown i 0) ≡ false → all_shown shown ≡ false
  unfolding all_shown
  all_fails i h e = every_fails (λ k. is_shown (get_or shown k 0)) (length shown) i h e

-- as a scan tells it: each value is shown, or one of them is not
pub scanned : (shown : List ℕ) (r : Bool)
    → MatchBool r (AllWithin (λ (v : ℕ). is_shown v ≡ true) shown 0 (length shown)) ((k : ℕ) × (k < length shown) × HoldsAt (λ (v : ℕ). is_shown v ≡ false) shown k)
    → r ≡ all_shown shown
scanned shown true h = sym (at_all shown (λ i l. h i 0 (omega arith) l))
scanned shown false h = sym (all_fails shown h.0 h.1 (h.2 0))

-- ---- the refusals ------------------------------------------------------------------------------------------------------------------------

module _ (R C : ℕ) (shown : List ℕ) (fit : Bool) where
  pub refused_size : size_ok R C ≡ false → 20 ≡ shown_refusal R C shown fit
  unfolding shown_refusal
  refused_size e = simp e

  module _ (size : size_ok R C ≡ true) {n : ℕ} (k : n ≡ R * C) where
    pub refused_length : (eqb (length shown) n && fit) ≡ false → 21 ≡ shown_refusal R C shown fit
    unfolding shown_refusal
    refused_length e = let f = ap (λ (m : ℕ). eqb (length shown) m && fit) (sym k) ∙ e in simp (size, f)

    -- 261 or 0
    pub refused_last : {all : Bool} → (eqb (length shown) n && fit) ≡ true → all_shown shown ≡ all → unless 261 all 0 ≡ shown_refusal R C shown fit
    unfolding shown_refusal
    refused_last e a = let f = ap (λ (m : ℕ). eqb (length shown) m && fit) (sym k) ∙ e in simp (size, f, a)

-- ---- a board without a fault -------------------------------------------------------------------------------------------------------------

pub record Showable (R C : ℕ) (shown : List ℕ) : Type 0 where
  pub size : size_ok R C ≡ true
  pub long : length shown ≡ R * C
  pub values : all_shown shown ≡ true

pub shown_passed : (R C : ℕ) (shown : List ℕ) (fit : Bool) → shown_refusal R C shown fit ≡ 0 → Showable R C shown × (fit ≡ true)
unfolding shown_refusal
shown_passed R C shown fit e =
    let first = unless_passed 19 (size_ok R C) _ e in
    let second = unless_passed 20 (eqb (length shown) (R * C) && fit) _ first.1 in (
      record {
        size = first.0;
        long = eqb-true (length shown) (R * C) (and_left (eqb (length shown) (R * C)) fit second.0);
        values = (unless_passed 260 (all_shown shown) 0 second.1).0;
      },
      and_right (eqb (length shown) (R * C)) fit second.0,
    )

pub shown_accepted : (R C : ℕ) (shown : List ℕ) (fit : Bool) → Showable R C shown → fit ≡ true → shown_refusal R C shown fit ≡ 0
unfolding shown_refusal
shown_accepted R C shown fit a f = simp (a.size, eq-eqb (length shown) (R * C) a.long, f, a.values)
