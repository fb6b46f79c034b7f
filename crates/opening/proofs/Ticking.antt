-- What is counted as opened is what the open cells grew by, touch by touch; showing wrong flags opens nothing.
use mathlib.Core.Path.{◌≡◌, refl, ap, sym, ◌∙◌, subst⁻¹}
use mathlib.Core.Bool.{Bool, true, false, not, ◌&&◌, true≢false, false≢true}
use mathlib.Core.List.{List}
use Prim.Native.Nat.{ℕ, zero, suc, ◌+◌, ◌<◌, ◌≤◌}
use native.Mathlib.Omega.{arith}
use borrow.Author.Tests.{eqb-true, le-leb, ltb-true, ltb-false}
use lib.Dec.{eqb, ltb}
use lib.ListN.{length, get_or, set, get_or-eq_default}
use lib.IntN.{ℤ, pos}
use Rattle.rules.specs.Words.{pick, bit, count}
use Rattle.rules.specs.Board.{face_at}
use Rattle.rules.specs.Opening.{Opened, closed_at, wrong_flag, crossed, refreshed, count_shown, is_open}
use Rattle.rules.specs.Clicks.{Desk, Play, take_back}
use Rattle.cells.specs.Ground.{Valued}
use Rattle.cells.specs.Promises.{open_in, Ticked}
use Rattle.cells.proofs.Words.{pick_both, count_le, count_zero}
use Rattle.cells.proofs.Face.{face_safe}
use Rattle.opening.proofs.Cases.{closed_in}
use Rattle.opening.specs.Parts.{opened}
use Rattle.opening.proofs.Lists.{count_sum, count_shown_set}
use Rattle.opening.proofs.Opening.{crossed_length, changed_open, opening_length, opening_changes}
use Rattle.opening.proofs.Refresh.{crossed_past}

-- ---- one cell -----------------------------------------------------------------------------------------------------------------------------

-- a cell past the end reads as open
shut_in : (shown : List ℕ) (q : ℕ) → is_open (get_or shown q 0) ≡ false → q < length shown
shut_in shown q e = go (ltb q (length shown)) refl
  where
    go : (b : Bool) → ltb q (length shown) ≡ b → q < length shown
    go true t = ltb-true q (length shown) t
    go false t = absurd (true≢false (sym (ap is_open (get_or-eq_default shown 0 (ltb-false q (length shown) t))) ∙ e))

-- a cell that was not open and is not is not counted
pub ticked_shut : (n : ℕ) (shown : List ℕ) (q v : ℕ) → is_open (get_or shown q 0) ≡ false → is_open v ≡ false → Ticked n shown n (set shown q v)
ticked_shut n shown q v e f =
    let c = count_shown_set is_open shown q v (shut_in shown q e) in
    let a : bit (is_open (get_or shown q 0)) ≡ 0 = ap bit e in
    let b : bit (is_open v) ≡ 0 = ap bit f in
    record { counted = omega arith }

-- what shows 10 is not open
pub closed_shut : (shown : List ℕ) (q : ℕ) → closed_at shown q ≡ true → is_open (get_or shown q 0) ≡ false
closed_shut shown q e = ap is_open (eqb-true (get_or shown q 0) 10 e)

-- neither is a flag
pub ticked_flag : (n : ℕ) (shown : List ℕ) (q : ℕ) → closed_at shown q ≡ true → Ticked n shown n (set shown q 11)
ticked_flag n shown q e = ticked_shut n shown q 11 (closed_shut shown q e) refl

back_shut : (question : Bool) → is_open (pick question 17 10) ≡ false
back_shut true = refl
back_shut false = refl

-- nor what is taken back
pub ticked_back : (n i : ℕ) (d : Desk) → Ticked n d.shown n (take_back i d).desk.shown
unfolding take_back
ticked_back n i d =
    pick_both (λ (o : Play). Ticked n d.shown n o.desk.shown) (eqb (get_or d.shown i 0) 11) _ _
    (λ e. ticked_shut n d.shown i _ (ap is_open (eqb-true (get_or d.shown i 0) 11 e)) (back_shut d.position.settings.question))
    (λ _. pick_both (λ (o : Play). Ticked n d.shown n o.desk.shown) (eqb (get_or d.shown i 0) 17) _ _
    (λ e. ticked_shut n d.shown i 10 (ap is_open (eqb-true (get_or d.shown i 0) 17 e)) refl)
    (λ _. record { counted = refl }))

module _ (n : ℕ) (shown : List ℕ) (q v : ℕ) (e : closed_at shown q ≡ true) where
  -- a number is counted
  pub ticked_number : v ≤ 8 → Ticked n shown (n + 1) (set shown q v)
  ticked_number h =
      let c = count_shown_set is_open shown q v (closed_in shown q e) in
      let a : bit (is_open (get_or shown q 0)) ≡ 0 = ap bit (closed_shut shown q e) in
      let b : bit (is_open v) ≡ 1 = ap bit (le-leb v 8 h) in
      record { counted = omega arith }

  -- a mine is not
  pub ticked_mine : v ≡ 15 → Ticked n shown n (set shown q v)
  ticked_mine h = ticked_shut n shown q v (closed_shut shown q e) (ap is_open h)

-- a safe cell of the board shows at most 8
pub safe_number : (B : List ℤ) (shown : List ℕ) (q v : ℕ) → Valued B → length B ≡ length shown → closed_at shown q ≡ true → v ≡ face_at B q → (v ≡ 15 → ⊥) → v ≤ 8
safe_number B shown q v vs l e f n = let h = closed_in shown q e in let s = face_safe (get_or B q (pos 0)) (vs q (omega arith)) (λ z. n (f ∙ z)) in omega arith

pub open_most : (shown : List ℕ) → open_in shown ≤ length shown
unfolding count_shown
open_most shown = count_le (λ i. is_open (get_or shown i 0)) (length shown)

-- ---- one after the other -----------------------------------------------------------------------------------------------------------------

-- nothing was opened
pub ticked_none : (n : ℕ) (shown : List ℕ) → Ticked n shown n shown
ticked_none n shown = record { counted = refl }

pub ticked_then : {n n₁ n₂ : ℕ} {shown shown₁ shown₂ : List ℕ} → Ticked n shown n₁ shown₁ → Ticked n₁ shown₁ n₂ shown₂ → Ticked n shown n₂ shown₂
ticked_then a b = record { counted = omega (arith, a.counted, b.counted) }

-- a sum goes on by what one more opening counts
pub ticked_add : (n : ℕ) {k : ℕ} {shown shown₁ : List ℕ} → Ticked 0 shown k shown₁ → Ticked n shown (n + k) shown₁
ticked_add n a = record { counted = omega (arith, a.counted) }

pub ticked_sum : {n k : ℕ} {shown shown₁ shown₂ : List ℕ} → Ticked 0 shown n shown₁ → Ticked 0 shown₁ k shown₂ → Ticked 0 shown (n + k) shown₂
ticked_sum {n} a b = ticked_then a (ticked_add n b)

-- no more is counted than there are cells
pub ticked_most : {n : ℕ} {shown shown₁ : List ℕ} → Ticked 0 shown n shown₁ → n ≤ length shown₁
ticked_most {shown₁ = shown₁} a = let m = open_most shown₁ in omega (arith, a.counted)

-- a count that the open cells bound stays so
pub ticked_room : {n n₁ : ℕ} {shown shown₁ : List ℕ} → Ticked n shown n₁ shown₁ → n ≤ open_in shown → n₁ ≤ open_in shown₁
ticked_room a h = omega (arith, a.counted, h)

-- ---- wrong flags --------------------------------------------------------------------------------------------------------------------------

cross_open : (f x : ℕ) → bit (is_open (wrong_flag f x)) ≡ bit (is_open x)
cross_open f x = go (eqb x 11) (not (eqb f 15)) refl
  where
    go : (a b : Bool) → eqb x 11 ≡ a → bit (is_open (pick (a && b) 14 x)) ≡ bit (is_open x)
    go true true e = sym (ap (λ (y : ℕ). bit (is_open y)) (eqb-true x 11 e))
    go true false e = refl
    go false b e = refl

crossed_open : (B : List ℤ) (n : ℕ) (shown : List ℕ) → n ≤ length shown → open_in (crossed B n shown) ≡ open_in shown
unfolding crossed
crossed_open B zero shown h = refl
crossed_open B (suc n) shown h =
    let x = get_or shown n 0 in
    let k = crossed_length B n shown in
    let c = count_shown_set is_open (crossed B n shown) n (wrong_flag (face_at B n) x) (omega arith) in
    let p : bit (is_open (get_or (crossed B n shown) n 0)) ≡ bit (is_open x) = ap (λ (y : ℕ). bit (is_open y)) (crossed_past B n shown n (omega arith)) in
    let w = cross_open (face_at B n) x in
    let i = crossed_open B n shown (omega arith) in
    omega arith

pub ticked_crossed : (B : List ℤ) {n n₁ : ℕ} {shown shown₁ shown₂ : List ℕ} → Ticked n shown n₁ shown₁ → shown₂ ≡ crossed B (length shown₁) shown₁ → Ticked n shown n₁ shown₂
ticked_crossed B {shown₁ = shown₁} a e =
    let c = crossed_open B (length shown₁) shown₁ (omega arith) in
    let d = ap open_in e in
    record { counted = omega (arith, a.counted, c, d) }

-- ---- what an opening returns ----------------------------------------------------------------------------------------------------------------

-- the cells that went from closed, anything but 0 to 8, to showing 0 to 8
abbrev pub newly : List ℕ → List ℕ → ℕ
newly shown shown' = count (λ i. not (is_open (get_or shown i 0)) && is_open (get_or shown' i 0)) (length shown)

module _ (B : List ℤ) (R C : ℕ) (given shown : List ℕ) (v : Valued B) where
  -- no open cell is lost
  pub opening_newly : open_in shown + newly shown (refreshed B R C given shown).shown ≡ open_in (refreshed B R C given shown).shown
  unfolding count_shown
  opening_newly =
      let after = (refreshed B R C given shown).shown in
      let s = count_sum (λ i. is_open (get_or shown i 0)) (λ i. not (is_open (get_or shown i 0)) && is_open (get_or after i 0)) (λ i. is_open (get_or after i 0)) (λ i. false) (length shown)
      (λ i _. both (is_open (get_or shown i 0)) (is_open (get_or after i 0)) (changed_open (opening_changes B R C given shown v i))) in
      let z = count_zero (λ i. false) (length shown) (λ i _. refl) in
      let l : count (λ i. is_open (get_or after i 0)) (length after) ≡ count (λ i. is_open (get_or after i 0)) (length shown) =
      ap (count (λ i. is_open (get_or after i 0))) (opening_length B R C given shown) in
      omega arith
    where
      both : (x y : Bool) → (x ≡ true → y ≡ true) → bit x + bit (not x && y) ≡ bit y + bit false
      both true true h = refl
      both true false h = absurd (false≢true (h refl))
      both false true h = refl
      both false false h = refl

  -- THE COUNT, from what `refresh_board` promises: with the open cells before it is the open cells after, and it is how many went from closed to open
  pub opening_count : (shown' : List ℕ) (hit : Bool) (n : ℕ) → opened shown' hit ≡ refreshed B R C given shown → Ticked 0 shown n shown'
      → (n + open_in shown ≡ open_in shown') × (n ≡ newly shown shown')
  opening_count shown' hit n o t =
      let g = subst⁻¹ (λ (l : List ℕ). open_in shown + newly shown l ≡ open_in l) (ap (λ (x : Opened). x.shown) o) opening_newly in
      (omega (arith, t.counted), omega (arith, t.counted))
