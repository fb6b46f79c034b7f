-- hint-first and hint-none: the hint is the first cell offered with the first number that justifies it, and nothing exactly if there is none. Assumes
-- nothing.
use mathlib.Core.Path.{◌≡◌, ◌∙◌, sym, refl, ap}
use mathlib.Core.Bool.{Bool, true, false, false≢true}
use mathlib.Core.List.{List}
use Prim.Native.Nat.{ℕ, ◌*◌, ◌<◌}
use native.Mathlib.Omega.{arith}
use native.Mathlib.Decide.{dec_lt}
use borrow.Author.Tests.{ltb-true, ltb-false, eqb-true}
use lib.Dec.{ltb, eqb}
use Rattle.rules.specs.Words.{pick}
use Rattle.rules.specs.Grid.{neighbour}
use Rattle.rules.specs.Picture.{shown_refusal}
use Rattle.rules.specs.declared.Hint.{Hint}
use Rattle.rules.specs.declared.Hint.TheVariants.{Cell, Nothing, Refused}
use Rattle.rules.specs.Trainer.{justifies, offered, offered_cell, justifier, cell_by, hint_at, hint_by, hint_of}
use Rattle.cells.proofs.Firsts.{first_none}
use Rattle.trainer.proofs.Firsts.{misses, found_at, found_none, first_found, first_is, first_before, none_all}
use Rattle.trainer.proofs.Hints.{beside, offered_justifier, justifier_justifies, offer_none, offer_cell, hint_offer}
use Rattle.hinting.specs.Hints.{Fine, First, Found, HintFirst, HintNone}

module _ (R C : ℕ) (shown : List ℕ) where
  gives : (i k : ℕ) → Fine R C shown → First R C shown i k → hint_of R C shown ≡ cell_by C i (neighbour R C i k)
  gives i k fine f =
      let a = first_found (offered R C shown) (R * C) i (none_all (offered R C shown) i f.before) f.offer f.on in
      let b = first_found (beside R C shown i) 8 k (none_all (beside R C shown i) k f.sooner) f.number f.place in
      sym (hint_offer R C shown fine) ∙ sym (offer_cell R C shown i (found_at (R * C) (offered_cell R C shown) i a f.on)) ∙ ap (λ (x : ℕ). cell_by C i (neighbour R C i x)) (sym b)

  -- where there is a first cell, it is found
  found : offered_cell R C shown < R * C → First R C shown (offered_cell R C shown) (justifier R C shown (offered_cell R C shown))
  found on =
      let is = (first_is (offered R C shown) (R * C)).passes on in
      let place = offered_justifier R C shown (offered_cell R C shown) is in
      record {
        on = on;
        offer = is;
        before = first_before (offered R C shown) (R * C);
        place = place;
        number = justifier_justifies R C shown (offered_cell R C shown) place;
        sooner = first_before (beside R C shown (offered_cell R C shown)) 8;
      }

  hint_found : Fine R C shown → offered_cell R C shown < R * C → Found R C shown (hint_of R C shown)
  hint_found fine on = record { cell = offered_cell R C shown; place = justifier R C shown (offered_cell R C shown); first = found on; same = gives _ _ fine (found on) }

  given : (i : ℕ) → Fine R C shown → i < R * C → offered R C shown i ≡ true → Found R C shown (hint_of R C shown)
  given i fine lt o = hint_found fine (go (dec_lt (offered_cell R C shown) (R * C)))
    where
      go : Dec (offered_cell R C shown < R * C) → offered_cell R C shown < R * C
      go (yes l) = l
      go (no g) = absurd (false≢true (sym (first_before (offered R C shown) (R * C) i (omega arith)) ∙ o))

  nothing : Fine R C shown → ((i : ℕ) → i < R * C → offered R C shown i ≡ false) → hint_of R C shown ≡ Nothing
  nothing fine h =
      let e = first_none (misses (offered R C shown)) (R * C) (none_all (offered R C shown) (R * C) h) in
      sym (hint_offer R C shown fine) ∙ sym (offer_none R C shown (found_none (R * C) (offered_cell R C shown) (omega arith)))

-- ---- which hint it is --------------------------------------------------------------------------------------------------------------------

-- constructors are apart
kind : Hint → ℕ
kind (Cell row column byRow byColumn) = 0
kind Nothing = 1
kind (Refused n) = 2

module _ (n : ℕ) (found : Bool) (cell : Hint) (is_cell : kind cell ≡ 0) where
  abbrev by : Hint
  by = pick (eqb n 0) (pick found cell Nothing) (Refused n)

  by_cell : kind by ≡ 0 → (n ≡ 0) × (found ≡ true)
  unfolding kind
  by_cell e = go (eqb n 0) refl found refl e
    where
      go : (a : Bool) → eqb n 0 ≡ a → (b : Bool) → found ≡ b → kind (pick a (pick b cell Nothing) (Refused n)) ≡ 0 → (n ≡ 0) × (found ≡ true)
      go true d true f k = (eqb-true n 0 d, f)
      go true d false f k = absurd (omega arith)
      go false d b f k = absurd (omega arith)

  by_none : kind by ≡ 1 → (n ≡ 0) × (found ≡ false)
  unfolding kind
  by_none e = go (eqb n 0) refl found refl e
    where
      go : (a : Bool) → eqb n 0 ≡ a → (b : Bool) → found ≡ b → kind (pick a (pick b cell Nothing) (Refused n)) ≡ 1 → (n ≡ 0) × (found ≡ false)
      go true d true f k = absurd (omega arith)
      go true d false f k = (eqb-true n 0 d, f)
      go false d b f k = absurd (omega arith)

module _ (R C : ℕ) (shown : List ℕ) where
  only : (r c x y : ℕ) → hint_of R C shown ≡ Cell r c x y → Fine R C shown × Found R C shown (Cell r c x y)
  unfolding hint_of hint_by kind
  only r c x y e =
      let p = by_cell (shown_refusal R C shown true) (ltb (offered_cell R C shown) (R * C)) (hint_at R C shown (offered_cell R C shown)) refl (ap kind e) in
      let f = hint_found R C shown p.0 (ltb-true _ _ p.1) in
      (p.0, record { cell = f.cell; place = f.place; first = f.first; same = sym e ∙ f.same })

  none : hint_of R C shown ≡ Nothing → Fine R C shown × ((i : ℕ) → i < R * C → offered R C shown i ≡ false)
  unfolding hint_of hint_by kind
  none e =
      let p = by_none (shown_refusal R C shown true) (ltb (offered_cell R C shown) (R * C)) (hint_at R C shown (offered_cell R C shown)) refl (ap kind e) in
      let z = ltb-false (offered_cell R C shown) (R * C) p.1 in
      (p.0, λ i lt. first_before (offered R C shown) (R * C) i (omega arith))

-- HINT-FIRST
pub hint_first : HintFirst
hint_first = record { gives = gives; given = given; only = only }

-- HINT-NONE
pub hint_none : HintNone
hint_none = record { nothing = nothing; none = none }
