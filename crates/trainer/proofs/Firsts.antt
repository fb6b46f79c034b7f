-- The first number that passes a test: where a scan stops that found none before it, and what is then known.
use mathlib.Core.Path.{◌≡◌, ◌∙◌, sym, refl, ap}
use mathlib.Core.Bool.{Bool, true, false, not}
use Prim.Native.Nat.{ℕ, ◌<◌, ◌≤◌}
use native.Mathlib.Omega.{arith}
use native.Mathlib.Decide.{dec_lt}
use borrow.Author.Tests.{lt-ltb, le-ltb, ltb-true, ltb-false, not-true, not-false}
use lib.Dec.{ltb}
use Rattle.std.specs.Prelude.{Some, None}
use Rattle.std.specs.Option.{IsSome, is_some}
use Rattle.rules.specs.Words.{pick, count, every}
use Rattle.cells.proofs.Words.{every_at, every_all, count_some, count_zero}
use Rattle.cells.proofs.Firsts.{first_none, first_at, first_fails, first_le}
use Rattle.rules.specs.Trainer.{first}
use Rattle.trainer.specs.Found.{found}

-- ---- a place that is found ---------------------------------------------------------------------------------------------------------------

module _ (n k : ℕ) where
  pub found_at : (i : ℕ) → i ≡ k → i < n → Some i ≡ found n k
  found_at i e l = simp (lt-ltb k n (omega arith)) (ap (λ (x : ℕ). Some x) e)

  pub found_none : n ≤ k → None ≡ found n k
  found_none h = simp (le-ltb k n h)

  pub some_found : (i : ℕ) → Some i ≡ found n k → (i ≡ k) × (i < n)
  some_found i e = go (ltb k n) refl e
    where
      go : (b : Bool) → ltb k n ≡ b → Some i ≡ pick b (Some k) None → (i ≡ k) × (i < n)
      go true d e = let l = ltb-true k n d in let q : i ≡ k = cc in (q, omega arith)
      go false d e = cc

  pub none_found : None ≡ found n k → n ≤ k
  none_found e = go (ltb k n) refl e
    where
      go : (b : Bool) → ltb k n ≡ b → None ≡ pick b (Some k) None → n ≤ k
      go true d e = cc
      go false d e = ltb-false k n d

  pub found_some : is_some (found n k) ≡ ltb k n
  found_some = go (ltb k n)
    where
      go : (b : Bool) → is_some (pick b (Some k) None) ≡ b
      go true = refl
      go false = refl

  pub found_there : k < n → IsSome (found n k)
  found_there h = simp (lt-ltb k n h)

-- ---- the first ---------------------------------------------------------------------------------------------------------------------------

-- as the scan tests it
abbrev pub misses : (ℕ → Bool) → ℕ → Bool
misses f i = not (f i)

module _ (f : ℕ → Bool) where
  -- none so far, and here is one
  pub first_found : (n i : ℕ) → every (misses f) i ≡ true → f i ≡ true → i < n → i ≡ first f n
  first_found n i e d h = sym (first_at (misses f) n i h e (ap not d))

  -- what is known of the first
  pub record FirstIs (n k : ℕ) : Type 0 where
    pub most : k ≤ n
    pub passes : k < n → f k ≡ true
    pub none : every (misses f) k ≡ true

  pub first_is : (n : ℕ) → FirstIs n (first f n)
  first_is n = go (every (misses f) n) refl
    where
      go : (t : Bool) → every (misses f) n ≡ t → FirstIs n (first f n)
      go true e = let q = first_none (misses f) n e in record { most = first_le (misses f) n; passes = λ l. absurd (omega arith); none = ap (every (misses f)) q ∙ e }
      go false e = let r = first_fails (misses f) n e in record { most = first_le (misses f) n; passes = λ _. not-false _ r.2; none = r.1 }

  -- none before it passes
  pub first_before : (n j : ℕ) → j < first f n → f j ≡ false
  first_before n j l = not-true _ (every_at (misses f) (first f n) (first_is n).none j l)

  -- none so far, one by one
  pub none_all : (n : ℕ) → ((i : ℕ) → i < n → f i ≡ false) → every (misses f) n ≡ true
  none_all n h = every_all (misses f) n (λ i l. ap not (h i l))

  -- there is a first exactly where some pass
  pub first_some : (n : ℕ) → ltb (first f n) n ≡ ltb 0 (count f n)
  first_some n = go (dec_lt (first f n) n)
    where
      go : Dec (first f n < n) → ltb (first f n) n ≡ ltb 0 (count f n)
      go (yes l) = lt-ltb _ _ l ∙ sym (lt-ltb 0 _ (count_some f n (first f n) l ((first_is n).passes l)))
      go (no g) =
          let z = count_zero f n (λ i l. first_before n i (omega arith)) in
          let m = (first_is n).most in
          le-ltb (first f n) n (omega arith) ∙ sym (le-ltb 0 (count f n) (omega arith))
