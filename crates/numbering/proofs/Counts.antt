-- Generic laws: counts of tests joined by or, and lists made in order.
use mathlib.Core.Path.{◌≡◌, refl, ap, sym, ◌∙◌}
use mathlib.Core.Bool.{Bool, true, false, ◌||◌}
use mathlib.Core.List.{[], ◌∷◌, ◌++◌}
use Prim.Native.Nat.{ℕ, zero, suc, ◌+◌, ◌<◌, ◌≤◌}
use native.Mathlib.Omega.{arith}
use native.Mathlib.Decide.{ℕ_discrete}
use borrow.Author.Tests.{eqb-true, ne_eqb}
use lib.Dec.{eqb}
use lib.ListN.{length, get_or, get_or-append}
use lib.Seq.{get_or_at}
use Rattle.rules.specs.Words.{bit, count, in_order}
use Rattle.cells.proofs.Words.{count_zero, in_order_length}

-- a test that always holds counts every number
pub count_all : (f : ℕ → Bool) (n : ℕ) → ((i : ℕ) → i < n → f i ≡ true) → count f n ≡ n
unfolding count
count_all f zero h = refl
count_all f (suc n) h =
    let a = count_all f n (λ i l. h i (omega arith)) in
    let b : bit (f n) ≡ 1 = ap bit (h n (omega arith)) in
    omega arith

bit_or : (a b : Bool) → bit (a || b) ≤ bit a + bit b
bit_or true b = omega arith
bit_or false b = omega arith

pub count_or : (f g : ℕ → Bool) (n : ℕ) → count (λ i. f i || g i) n ≤ count f n + count g n
unfolding count
count_or f g zero = omega arith
count_or f g (suc n) = let a = count_or f g n in let b = bit_or (f n) (g n) in omega arith

-- at most one number is k
pub count_one : (k n : ℕ) → count (eqb k) n ≤ 1
unfolding count
count_one k zero = omega arith
count_one k (suc n) = go (eqb k n) refl (count_one k n)
  where
    go : (b : Bool) → eqb k n ≡ b → count (eqb k) n ≤ 1 → count (eqb k) n + bit b ≤ 1
    go true e h = let d = eqb-true k n e in let z = count_zero (eqb k) n (λ i l. ne_eqb k i (λ q. omega arith)) in omega arith
    go false e h = omega arith

-- ---- lists in order ----------------------------------------------------------------------------------------------------------------------

pub in_order_at : {A : Type 0} (f : ℕ → A) (n : ℕ) (d : A) (i : ℕ) → i < n → get_or (in_order f n) i d ≡ f i
unfolding in_order
in_order_at f zero d i h = absurd (omega arith)
in_order_at f (suc n) d i h = go (ℕ_discrete i n) (in_order_at f n d i)
  where
    go : Dec (i ≡ n) → (i < n → get_or (in_order f n) i d ≡ f i) → get_or (in_order f n ++ (f n ∷ [])) i d ≡ f i
    go (yes e) rec = ap (λ (j : ℕ). get_or (in_order f n ++ (f n ∷ [])) j d) e ∙ get_or_at (in_order f n) (f n) [] d n (in_order_length f n) ∙ ap f (sym e)
    go (no e) rec =
        let l : i < length (in_order f n) = omega (arith, in_order_length f n) in
        get_or-append (in_order f n) (f n ∷ []) d i l ∙ rec (omega arith)
