-- One equation for each way through the tests of a number, of a cell and of a question.
use mathlib.Core.Path.{◌≡◌, ◌∙◌, sym, refl, ap, ap₂}
use mathlib.Core.Bool.{Bool, true, false, false≢true, ◌&&◌}
use mathlib.Core.List.{List}
use Prim.Native.Nat.{ℕ, ◌+◌, ◌*◌, ◌/◌, ◌%◌, ◌<◌, ◌≤◌}
use native.Mathlib.Omega.{arith}
use native.Mathlib.Decide.{dec_lt}
use borrow.Author.Tests.{lt-ltb, le-ltb, ltb-true, lt-leb, le-leb, eq-eqb, ne_eqb, eqb-true}
use lib.Dec.{ltb, eqb}
use lib.ListN.{length, get_or, get_or-eq_default}
use Rattle.std.specs.Prelude.{Some, None}
use Rattle.rules.specs.Words.{count, every}
use Rattle.rules.specs.Grid.{ninth, cell_before, neighbour, around}
use Rattle.rules.specs.Clicks.{flag_at}
use Rattle.rules.specs.Picture.{shown_refusal}
use Rattle.cells.specs.Ground.{Sized}
use Rattle.cells.proofs.Grid.{size_limits}
use Rattle.cells.proofs.Words.{and_left, product_same}
use Rattle.showing.proofs.Shown.{Showable, shown_passed, shown_accepted}
use Rattle.rules.specs.declared.Hint.{Hint}
use Rattle.rules.specs.declared.Hint.TheVariants.{Cell, Nothing, Refused}
use Rattle.rules.specs.Trainer.{first, justifies, offered, offered_cell, justifier, cell_by, hint_at, offer_of, hint_by, hint_of}
use Rattle.cells.proofs.Firsts.{first_none}
use Rattle.trainer.specs.Found.{found}
use Rattle.trainer.proofs.Firsts.{misses, first_is, first_some, some_found, none_found, found_none}

-- ---- a number ----------------------------------------------------------------------------------------------------------------------------

module _ (R C : ℕ) (shown : List ℕ) (j : ℕ) where
  pub justifies_zero : get_or shown j 0 < 1 → false ≡ justifies R C shown j
  unfolding justifies
  justifies_zero h = simp (lt-leb _ _ h)

  pub justifies_off : length shown ≤ j → false ≡ justifies R C shown j
  justifies_off h = let z : get_or shown j 0 ≡ 0 = get_or-eq_default shown 0 h in justifies_zero (omega arith)

  pub justifies_high : 1 ≤ get_or shown j 0 → 8 < get_or shown j 0 → false ≡ justifies R C shown j
  unfolding justifies
  justifies_high l h = simp (le-leb _ _ l, lt-leb _ _ h)

  pub justifies_flags : {f i : ℕ} → i ≡ j → 1 ≤ get_or shown j 0 → get_or shown j 0 ≤ 8 → f ≡ around R C (flag_at shown) i → eqb f (get_or shown j 0) ≡ justifies R C shown j
  unfolding justifies
  justifies_flags e l h d = simp (le-leb _ _ l, le-leb _ _ h, d, e)

  -- a number that justifies is on the board
  pub justifies_on : justifies R C shown j ≡ true → j < length shown
  justifies_on h = go (dec_lt j (length shown))
    where
      go : Dec (j < length shown) → j < length shown
      go (yes l) = l
      go (no g) = absurd (false≢true (justifies_off (omega arith) ∙ h))

-- ---- a cell ------------------------------------------------------------------------------------------------------------------------------

module _ (R C : ℕ) (shown : List ℕ) (i : ℕ) where
  abbrev pub beside : ℕ → Bool
  beside k = justifies R C shown (neighbour R C i k)

  pub offered_shut : (get_or shown i 0 ≡ 10 → ⊥) → false ≡ offered R C shown i
  unfolding offered
  offered_shut h = simp (ne_eqb _ _ h)

  pub offered_by : get_or shown i 0 ≡ 10 → ltb (justifier R C shown i) 8 ≡ offered R C shown i
  unfolding offered around
  offered_by h = first_some beside 8 ∙ sym (ap (λ (b : Bool). b && ltb 0 (count beside 8)) (eq-eqb _ _ h))

  pub offered_closed : offered R C shown i ≡ true → get_or shown i 0 ≡ 10
  unfolding offered
  offered_closed h = eqb-true _ _ (and_left _ _ h)

  pub offered_justifier : offered R C shown i ≡ true → justifier R C shown i < 8
  offered_justifier h = ltb-true _ _ (offered_by (offered_closed h) ∙ h)

  pub justifier_justifies : justifier R C shown i < 8 → beside (justifier R C shown i) ≡ true
  justifier_justifies h = (first_is beside 8).passes h

  -- the number's cell
  pub number_on : justifier R C shown i < 8 → neighbour R C i (justifier R C shown i) < length shown
  number_on h = justifies_on R C shown _ (justifier_justifies h)

  -- the code's k-th neighbour was tested
  pub beside_at : (k : ℕ) {q : ℕ} {r b : Bool} → q ≡ cell_before R C (i / C + ninth k / 3) (i % C + ninth k % 3) → r ≡ justifies R C shown q → r ≡ b → beside k ≡ b
  unfolding neighbour
  beside_at k e d f = ap (justifies R C shown) (sym e) ∙ sym d ∙ f

  -- the number's cell, as the code finds it
  module _ {k q : ℕ} (d : k ≡ justifier R C shown i) (e : q ≡ cell_before R C (i / C + ninth k / 3) (i % C + ninth k % 3)) where
    number_is : q ≡ neighbour R C i (justifier R C shown i)
    unfolding neighbour
    number_is = e ∙ ap (λ (x : ℕ). neighbour R C i x) d

    pub number_below : length shown ≡ R * C → justifier R C shown i < 8 → q < R * C
    number_below l h = let b = number_on h in let z = number_is in omega arith

    pub hint_made : {a b x y : ℕ} → a ≡ i / C → b ≡ i % C → x ≡ q / C → y ≡ q % C → Cell a b x y ≡ hint_at R C shown i
    hint_made {x = x} {y = y} p r s t = ap₂ (λ (m n : ℕ). Cell m n x y) p r ∙ ap₂ (λ (m n : ℕ). Cell (i / C) (i % C) m n) s t ∙ ap (cell_by C i) number_is

-- ---- a question --------------------------------------------------------------------------------------------------------------------------

module _ (R C : ℕ) (shown : List ℕ) where
  -- every cell was tried
  pub all_tried : {i : ℕ} → length shown ≡ R * C → i ≤ length shown → length shown ≤ i → every (misses (offered R C shown)) i ≡ true
      → None ≡ found (R * C) (offered_cell R C shown)
  all_tried {i} e a b h =
      let z : i ≡ R * C = omega arith in
      let q : first (offered R C shown) (R * C) ≡ R * C = first_none (misses (offered R C shown)) (R * C) (rw z at h) in
      found_none _ _ (omega arith)

  pub offer_none : None ≡ found (R * C) (offered_cell R C shown) → Nothing ≡ offer_of R C shown
  offer_none h = simp (le-ltb (offered_cell R C shown) (R * C) (none_found _ _ h))

  pub offer_cell : (i : ℕ) → Some i ≡ found (R * C) (offered_cell R C shown) → hint_at R C shown i ≡ offer_of R C shown
  offer_cell i h = let e = some_found _ _ i h in let l = e.1 in rw e.0 (simp (lt-ltb (offered_cell R C shown) (R * C) (omega arith)))

  pub offer_justified : (i : ℕ) → Some i ≡ found (R * C) (offered_cell R C shown) → justifier R C shown i < 8
  offer_justified i h =
      let e = some_found _ _ i h in
      let l = e.1 in
      offered_justifier R C shown _ (rw e.0 ((first_is (offered R C shown) (R * C)).passes (omega arith)))

  pub hint_refused : {n : ℕ} → n ≡ shown_refusal R C shown true → (n ≡ 0 → ⊥) → Refused n ≡ hint_of R C shown
  unfolding hint_of hint_by
  hint_refused e h = rw e (simp (ne_eqb (shown_refusal R C shown true) 0 (λ z. h (e ∙ z))))

  pub hint_offer : shown_refusal R C shown true ≡ 0 → offer_of R C shown ≡ hint_of R C shown
  unfolding hint_of hint_by
  hint_offer e = simp e

  pub hint_accepted : Showable R C shown → offer_of R C shown ≡ hint_of R C shown
  hint_accepted a = hint_offer (shown_accepted R C shown true a refl)

  -- the code's sizes are those given
  module _ (e : 0 ≡ shown_refusal R C shown true) {r c : ℕ} (x : r ≡ R) (y : c ≡ C) where
    showable : Showable R C shown
    showable = (shown_passed R C shown true (sym e)).0

    pub wide_sized : Sized r c
    wide_sized = rw (x, y) (size_limits R C showable.size)

    pub wide_long : length shown ≡ r * c
    wide_long = showable.long ∙ sym (product_same x y)

    pub wide_offer : {o : Hint} → o ≡ offer_of r c shown → o ≡ hint_of R C shown
    wide_offer q = q ∙ ap₂ (λ (a b : ℕ). offer_of a b shown) x y ∙ hint_offer (sym e)
