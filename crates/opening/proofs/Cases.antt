-- A turn of opening, case by case.
use mathlib.Core.Path.{◌≡◌, refl}
use mathlib.Core.Bool.{Bool, true, false, ◌&&◌, ◌||◌}
use mathlib.Core.List.{List}
use Prim.Native.Nat.{ℕ, ◌<◌}
use native.Mathlib.Omega.{arith}
use borrow.Author.Tests.{eq-eqb, ne_eqb, eqb-true, ltb-true, ltb-false}
use lib.Dec.{eqb, ltb}
use lib.ListN.{length, get_or, set, get_or-eq_default}
use lib.IntN.{ℤ}
use Rattle.rules.specs.Words.{pick}
use Rattle.rules.specs.Grid.{pushed}
use Rattle.rules.specs.Board.{face_at, mine_at}
use Rattle.rules.specs.Opening.{closed_at, shown_after, stack_after, hit_after}

-- a closed cell is on the board
pub closed_in : (shown : List ℕ) (q : ℕ) → closed_at shown q ≡ true → q < length shown
closed_in shown q e = go (ltb q (length shown)) refl
  where
    go : (b : Bool) → ltb q (length shown) ≡ b → q < length shown
    go true d = ltb-true _ _ d
    go false d = let z = get_or-eq_default shown 0 (ltb-false _ _ d) in let t = eqb-true (get_or shown q 0) 10 e in absurd (omega arith)

module _ (B : List ℤ) (R C : ℕ) (shown : List ℕ) (i : ℕ) where
  pub shown_open : closed_at shown i ≡ true → shown_after B shown i ≡ set shown i (face_at B i)
  unfolding shown_after
  shown_open e = rw e

  pub shown_shut : closed_at shown i ≡ false → shown_after B shown i ≡ shown
  unfolding shown_after
  shown_shut e = rw e

  module _ (st : List ℕ) where
    pub stack_zero : closed_at shown i ≡ true → face_at B i ≡ 0 → stack_after B R C shown i st ≡ pushed R C (closed_at (set shown i 0)) i 8 st
    unfolding stack_after
    stack_zero e f = simp (e, eq-eqb _ _ f)

    pub stack_number : (face_at B i ≡ 0 → ⊥) → stack_after B R C shown i st ≡ st
    unfolding stack_after
    stack_number f = go (closed_at shown i)
      where
        go : (b : Bool) → pick (b && eqb (face_at B i) 0) (pushed R C (closed_at (set shown i 0)) i 8 st) st ≡ st
        go true = rw (ne_eqb _ _ f)
        go false = refl

    pub stack_shut : closed_at shown i ≡ false → stack_after B R C shown i st ≡ st
    unfolding stack_after
    stack_shut e = rw e

  module _ (hit : Bool) where
    pub hit_mine : closed_at shown i ≡ true → mine_at B i ≡ true → hit_after B shown i hit ≡ true
    unfolding hit_after
    hit_mine e f = simp (e, f)

    pub hit_safe : mine_at B i ≡ false → hit_after B shown i hit ≡ hit
    unfolding hit_after
    hit_safe f = go (closed_at shown i)
      where
        go : (b : Bool) → ((b && mine_at B i) || hit) ≡ hit
        go true = rw f
        go false = refl

    pub hit_shut : closed_at shown i ≡ false → hit_after B shown i hit ≡ hit
    unfolding hit_after
    hit_shut e = rw e

-- a mine once hit stays hit
pub hit_stays : (B : List ℤ) (shown : List ℕ) (i : ℕ) → hit_after B shown i true ≡ true
unfolding hit_after
hit_stays B shown i = go (closed_at shown i && mine_at B i)
  where
    go : (b : Bool) → (b || true) ≡ true
    go true = refl
    go false = refl
