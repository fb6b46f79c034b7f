-- What a turn of opening costs: the stack's height against the number of closed cells. Never more than 7 × cells + 8 are stacked, and 8 × cells + 8 turns suffice.
use mathlib.Core.Path.{◌≡◌, refl, ap, ◌∙◌}
use mathlib.Core.Bool.{Bool, true, false}
use mathlib.Core.List.{List}
use mathlib.Core.Logic.{◌⊎◌, inl, inr}
use Prim.Native.Nat.{ℕ, suc, ◌+◌, ◌*◌, ◌<◌, ◌≤◌}
use native.Mathlib.Omega.{arith}
use borrow.Author.Tests.{eqb-true, eqb-false, leb-true, ltb-true, ltb-false, ne_eqb}
use lib.Dec.{eqb, ltb}
use lib.ListN.{length, get_or, set, length-set, get_or-eq_default}
use lib.IntN.{ℤ, pos, negsuc}
use Rattle.rules.specs.Words.{bit}
use Rattle.rules.specs.Board.{face, face_at, value_ok}
use Rattle.rules.specs.Opening.{closed_at, shown_after, stack_after, count_shown}
use Rattle.rules.specs.Lawful.{shows}
use Rattle.cells.specs.Ground.{Valued}
use Rattle.cells.proofs.Words.{count_le}
use Rattle.cells.proofs.Grid.{pushed_height}
use Rattle.opening.proofs.Lists.{count_shown_set}
use Rattle.opening.proofs.Cases.{closed_in, shown_open, shown_shut, stack_zero, stack_number, stack_shut}

value_face : (z : ℤ) → value_ok z ≡ true → (face z ≤ 8) ⊎ (face z ≡ 15)
value_face (pos n) e = inl (leb-true n 8 e)
value_face (negsuc n) e = inr refl

-- a face is 0 to 8 or 15
pub face_range : (B : List ℤ) → Valued B → (i : ℕ) → (face_at B i ≤ 8) ⊎ (face_at B i ≡ 15)
face_range B v i = go (ltb i (length B)) refl
  where
    go : (b : Bool) → ltb i (length B) ≡ b → (face_at B i ≤ 8) ⊎ (face_at B i ≡ 15)
    go true e = value_face (get_or B i (pos 0)) (v i (ltb-true _ _ e))
    go false e = let d : face_at B i ≡ 0 = ap face (get_or-eq_default B (pos 0) (ltb-false _ _ e)) in inl (omega arith)

pub face_ne : (B : List ℤ) → Valued B → (i n : ℕ) → 8 < n → n < 15 → face_at B i ≡ n → ⊥
face_ne B v i n h l e = go (face_range B v i)
  where
    go : (face_at B i ≤ 8) ⊎ (face_at B i ≡ 15) → ⊥
    go (inl a) = omega arith
    go (inr a) = omega arith

-- a closed cell that no longer shows 10 is one closed cell less
pub closed_set : (shown : List ℕ) (i v : ℕ) → closed_at shown i ≡ true → (v ≡ 10 → ⊥) → suc (count_shown (shows 10) (set shown i v)) ≡ count_shown (shows 10) shown
closed_set shown i v e n =
    let c = count_shown_set (shows 10) shown i v (closed_in shown i e) in
    let a : bit (shows 10 (get_or shown i 0)) ≡ 1 = ap bit e in
    let b : bit (shows 10 v) ≡ 0 = ap bit (ne_eqb v 10 n) in
    omega arith

pub closed_pos : (shown : List ℕ) (q : ℕ) → closed_at shown q ≡ true → 1 ≤ count_shown (shows 10) shown
closed_pos shown q e = let f = closed_set shown q 0 e (λ h. omega arith) in omega arith

pub closed_most : (shown : List ℕ) → count_shown (shows 10) shown ≤ length shown
unfolding count_shown
closed_most shown = count_le (λ i. shows 10 (get_or shown i 0)) (length shown)

pub closed_after : (B : List ℤ) (shown : List ℕ) (i : ℕ) → Valued B → closed_at shown i ≡ true → suc (count_shown (shows 10) (shown_after B shown i)) ≡ count_shown (shows 10) shown
closed_after B shown i v e = rw (shown_open B 0 0 shown i e) (closed_set shown i (face_at B i) e (face_ne B v i 10 (omega arith) (omega arith)))

-- the two sums that never grow
pub record Cheaper (B : List ℤ) (R C : ℕ) (shown : List ℕ) (i : ℕ) (st : List ℕ) : Type 0 where
  pub fuel : length (stack_after B R C shown i st) + 8 * count_shown (shows 10) (shown_after B shown i) ≤ length st + 8 * count_shown (shows 10) shown
  pub height : length (stack_after B R C shown i st) + 7 * count_shown (shows 10) (shown_after B shown i) ≤ suc (length st) + 7 * count_shown (shows 10) shown

pub cheaper : (B : List ℤ) (R C : ℕ) (shown : List ℕ) (i : ℕ) (st : List ℕ) → Valued B → Cheaper B R C shown i st
cheaper B R C shown i st v = go (closed_at shown i) (eqb (face_at B i) 0) refl refl
  where
    go : (a b : Bool) → closed_at shown i ≡ a → eqb (face_at B i) 0 ≡ b → Cheaper B R C shown i st
    go true true e f =
        let h : length (stack_after B R C shown i st) ≤ 8 + length st = rw (stack_zero B R C shown i st e (eqb-true _ _ f)) (pushed_height R C (closed_at (set shown i 0)) i 8 st) in
        let l = closed_after B shown i v e in
        record { fuel = omega arith; height = omega arith }
    go true false e f =
        let h : length (stack_after B R C shown i st) ≡ length st = ap length (stack_number B R C shown i st (eqb-false _ _ f)) in
        let l = closed_after B shown i v e in
        record { fuel = omega arith; height = omega arith }
    go false b e f =
        let h : length (stack_after B R C shown i st) ≡ length st = ap length (stack_shut B R C shown i st e) in
        let l : count_shown (shows 10) (shown_after B shown i) ≡ count_shown (shows 10) shown = ap (count_shown (shows 10)) (shown_shut B R C shown i e) in
        record { fuel = omega arith; height = omega arith }

pub length_after : (B : List ℤ) (shown : List ℕ) (i : ℕ) → length (shown_after B shown i) ≡ length shown
length_after B shown i = go (closed_at shown i) refl
  where
    go : (a : Bool) → closed_at shown i ≡ a → length (shown_after B shown i) ≡ length shown
    go true e = ap length (shown_open B 0 0 shown i e) ∙ length-set shown i (face_at B i)
    go false e = ap length (shown_shut B 0 0 shown i e)
