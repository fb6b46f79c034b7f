-- Laws of stored lists and of counts that hold for any test. Assumes nothing.
use mathlib.Core.Path.{◌≡◌, refl}
use mathlib.Core.List.{List, [], ◌∷◌}
use mathlib.Core.Bool.{Bool, true, false, not}
use Prim.Native.Nat.{ℕ, zero, suc, ◌+◌, ◌<◌}
use native.Mathlib.Omega.{arith}
use lib.ListN.{get_or, length}
use Rattle.rules.specs.Words.{bit, count}

-- an entry that is not 0 is in the list
pub entry_in : (l : List ℕ) (j : ℕ) → 0 < get_or l j 0 → j < length l
entry_in [] j h = absurd (omega arith)
entry_in (x ∷ xs) zero h = omega arith
entry_in (x ∷ xs) (suc j) h = let l = entry_in xs j h in omega arith

-- what passes a test and what does not is all
pub count_not : (f : ℕ → Bool) (n : ℕ) → count (λ i. not (f i)) n + count f n ≡ n
unfolding count
count_not f zero = refl
count_not f (suc n) = let a = one (f n) in let b = count_not f n in omega arith
  where
    one : (b : Bool) → bit (not b) + bit b ≡ 1
    one true = refl
    one false = refl
