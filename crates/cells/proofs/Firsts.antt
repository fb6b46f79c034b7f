-- The first that fails a test: where a scan finds it, that it fails, and that all before it pass.
use mathlib.Core.Path.{◌≡◌, refl, ap, sym, ◌∙◌}
use mathlib.Core.Bool.{Bool, true, false, true≢false, ◌&&◌}
use Prim.Native.Nat.{ℕ, zero, suc, ◌+◌, ◌<◌, ◌≤◌}
use native.Mathlib.Omega.{arith}
use native.Mathlib.Numerals.{add-one}
use native.Mathlib.Decide.{ℕ_discrete}
use borrow.Author.Tests.{eq-eqb, ne_eqb}
use lib.Dec.{eqb}
use Rattle.rules.specs.Words.{pick, bit, every, first_not}
use Rattle.cells.proofs.Words.{and_left, and_right, every_fails}

module _ (f : ℕ → Bool) where
  -- where none fails, the end
  pub first_none : (n : ℕ) → every f n ≡ true → first_not f n ≡ n
  unfolding first_not every
  first_none zero e = refl
  first_none (suc n) e = rw (and_left (every f n) (f n) e, and_right (every f n) (f n) e) (add-one n)

  -- a scan that passed all before it has found it
  pub first_at : (n i : ℕ) → i < n → every f i ≡ true → f i ≡ false → first_not f n ≡ i
  unfolding first_not
  first_at zero i h e d = absurd (omega arith)
  first_at (suc n) i h e d = go (λ l. first_at n i l e d) (ℕ_discrete i n)
    where
      go : (i < n → first_not f n ≡ i) → Dec (i ≡ n) → pick (every f n) (n + bit (f n)) (first_not f n) ≡ i
      go before (yes q) = rw (sym q) (rw (e, d) (omega arith))
      go before (no q) = rw (every_fails f n i (omega arith) d) (before (omega arith))

  -- and one at its end has found none
  pub first_past : (n i : ℕ) → n ≤ i → i ≤ n → every f i ≡ true → first_not f n ≡ i
  first_past n i h k e = let d : n ≡ i = omega arith in ap (first_not f) d ∙ first_none i e

  -- it fails, and all before it pass
  pub first_fails : (n : ℕ) → every f n ≡ false → (first_not f n < n) × (every f (first_not f n) ≡ true) × (f (first_not f n) ≡ false)
  unfolding first_not every
  first_fails zero e = absurd (true≢false e)
  first_fails (suc n) e = go (first_fails n) (every f n) refl
    where
      go : (every f n ≡ false → (first_not f n < n) × (every f (first_not f n) ≡ true) × (f (first_not f n) ≡ false)) → (b : Bool) → every f n ≡ b
          → (pick b (n + bit (f n)) (first_not f n) < suc n) × (every f (pick b (n + bit (f n)) (first_not f n)) ≡ true) × (f (pick b (n + bit (f n)) (first_not f n)) ≡ false)
      go before true d =
          let fails : f n ≡ false = sym (ap (λ (b : Bool). b && f n) d) ∙ e in
          let h = ap bit fails in
          let q : n + bit (f n) ≡ n = omega arith in
          rw q (omega arith, d, fails)
      go before false d = let r = before d in let l = r.0 in (omega arith, r.1, r.2)

-- it is no further than the end
pub first_le : (f : ℕ → Bool) (n : ℕ) → first_not f n ≤ n
first_le f n = go (every f n) refl
  where
    go : (b : Bool) → every f n ≡ b → first_not f n ≤ n
    go true e = let h = first_none f n e in omega arith
    go false e = let h = (first_fails f n e).0 in omega arith

-- all pass exactly where the end is reached
pub first_end : (f : ℕ → Bool) (n : ℕ) → eqb (first_not f n) n ≡ every f n
first_end f n = go (every f n) refl
  where
    go : (b : Bool) → every f n ≡ b → eqb (first_not f n) n ≡ b
    go true e = eq-eqb _ _ (first_none f n e)
    go false e = let h = (first_fails f n e).0 in ne_eqb _ _ (λ (q : first_not f n ≡ n). omega arith)
