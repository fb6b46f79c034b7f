-- Numbers that are counted no further than 100: one digit more, and tests that give the same of a number as of what was counted.
use mathlib.Core.Path.{◌≡◌, refl, ap, sym, ◌∙◌}
use mathlib.Core.Bool.{Bool, true, false}
use Prim.Native.Nat.{ℕ, ◌+◌, ◌-◌, ◌*◌, ◌<◌, ◌≤◌}
use native.Mathlib.Omega.{arith}
use lib.Dec.{leb, ltb}
use borrow.Author.Tests.{leb-true, ltb-true, ltb-false, lt-ltb, le-ltb}
use Rattle.rules.specs.Picture.{is_digit}
use Rattle.cells.proofs.Words.{and_left, and_right}
use Rattle.tokens.specs.Taken.{counted}

pub counted_whole : (n : ℕ) → n < 100 → counted n ≡ n
unfolding counted
counted_whole n h = simp (lt-ltb n 100 h)

pub counted_most : (n : ℕ) → 100 ≤ n → counted n ≡ 100
unfolding counted
counted_most n h = simp (le-ltb n 100 h)

-- what holds of the numbers below 100 and of the others holds of all
small_or_not : {P : Type 0} (n : ℕ) → (n < 100 → P) → (100 ≤ n → P) → P
small_or_not {P} n small large = go (ltb n 100) refl
  where
    go : (b : Bool) → ltb n 100 ≡ b → P
    go true e = small (ltb-true n 100 e)
    go false e = large (ltb-false n 100 e)

-- one digit more
pub counted_step : (v d : ℕ) → counted (counted v * 10 + d) ≡ counted (v * 10 + d)
counted_step v d =
    small_or_not v
    (λ h. ap (λ (k : ℕ). counted (k * 10 + d)) (counted_whole v h))
    (λ h. let e = counted_most v h in counted_most (counted v * 10 + d) (omega arith) ∙ sym (counted_most (v * 10 + d) (omega arith)))

-- a test that no number from 100 on passes
pub counted_test : (f : ℕ → Bool) → ((n : ℕ) → 100 ≤ n → f n ≡ false) → (v : ℕ) → f (counted v) ≡ f v
counted_test f h v =
    small_or_not v
    (λ s. ap f (counted_whole v s))
    (λ l. let e = counted_most v l in h (counted v) (omega arith) ∙ sym (h v l))

-- a number that is counted below 100 is whole
pub counted_back : {v : ℕ} (n : ℕ) → v ≡ counted n → v < 100 → v ≡ n
counted_back n e h =
    small_or_not n
    (λ s. e ∙ counted_whole n s)
    (λ l. let f = counted_most n l in absurd (omega arith))

-- ---- digits ------------------------------------------------------------------------------------------------------------------------------

pub digit_low : (b : ℕ) → is_digit b ≡ true → 48 ≤ b
unfolding is_digit
digit_low b e = leb-true 48 b (and_left (leb 48 b) (leb b 57) e)

pub digit_high : (b : ℕ) → is_digit b ≡ true → b ≤ 57
unfolding is_digit
digit_high b e = leb-true b 57 (and_right (leb 48 b) (leb b 57) e)

module _ (value b : ℕ) (digit : is_digit b ≡ true) where
  pub digit_fits : value ≤ 9 → value * 10 + (b - 48) ≡ counted (value * 10 + (b - 48))
  digit_fits h = let l = digit_low b digit in let m = digit_high b digit in sym (counted_whole (value * 10 + (b - 48)) (omega arith))

  pub digit_over : 9 < value → 100 ≡ counted (value * 10 + (b - 48))
  digit_over h = sym (counted_most (value * 10 + (b - 48)) (omega arith))
