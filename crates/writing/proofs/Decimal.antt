-- Decimal texts: the last digit stands last, and a number below a power of ten has at most so many digits.
use mathlib.Core.Path.{◌≡◌, refl, ap, sym, ◌∙◌}
use mathlib.Core.Bool.{Bool, true, false}
use mathlib.Core.List.{List, [], ◌∷◌, ◌++◌, append_assoc}
use Prim.Native.Nat.{ℕ, zero, suc, ◌+◌, ◌*◌, ◌/◌, ◌%◌, ◌<◌, ◌≤◌}
use native.Mathlib.Omega.{arith}
use lib.Dec.{ltb}
use lib.ListN.{length, length-append}
use borrow.Author.Tests.{ltb-true, ltb-false, lt-ltb, le-ltb}
use Rattle.rules.specs.Printout.{digits, decimal}

abbrev pub ten : ℕ → ℕ
ten zero = 1
ten (suc f) = 10 * ten f

-- one digit, or more
pub digits_one : (f n : ℕ) (more : List ℕ) → n < 10 → digits (suc f) n more ≡ (48 + n) ∷ more
unfolding digits
digits_one f n more h = simp (lt-ltb n 10 h)

pub digits_more : (f n : ℕ) (more : List ℕ) → 10 ≤ n → digits (suc f) n more ≡ digits f (n / 10) ((48 + n % 10) ∷ more)
unfolding digits
digits_more f n more h = simp (le-ltb n 10 h)

-- what holds of the numbers below 10 and of the others holds of all
pub small_or_not : {P : Type 0} (n : ℕ) → (n < 10 → P) → (10 ≤ n → P) → P
small_or_not {P} n small large = go (ltb n 10) refl
  where
    go : (b : Bool) → ltb n 10 ≡ b → P
    go true e = small (ltb-true n 10 e)
    go false e = large (ltb-false n 10 e)

-- the digits stand before what follows
pub digits_before : (f n : ℕ) (a b : List ℕ) → digits f n (a ++ b) ≡ digits f n a ++ b
unfolding digits
digits_before zero n a b = refl
digits_before (suc f) n a b =
    let rec = digits_before f (n / 10) ((48 + n % 10) ∷ a) b in
    small_or_not n
    (λ h. digits_one f n (a ++ b) h ∙ ap (λ (l : List ℕ). l ++ b) (sym (digits_one f n a h)))
    (λ h. digits_more f n (a ++ b) h ∙ rec ∙ ap (λ (l : List ℕ). l ++ b) (sym (digits_more f n a h)))

-- more than enough changes nothing
pub digits_enough : (f n : ℕ) (more : List ℕ) → n < ten (suc f) → digits (suc (suc f)) n more ≡ digits (suc f) n more
digits_enough zero n more h = digits_one 1 n more (omega arith) ∙ sym (digits_one 0 n more (omega arith))
digits_enough (suc f) n more h =
    let rec : n / 10 < ten (suc f) → _ = digits_enough f (n / 10) ((48 + n % 10) ∷ more) in
    small_or_not n
    (λ s. digits_one (suc (suc f)) n more s ∙ sym (digits_one (suc f) n more s))
    (λ s. digits_more (suc (suc f)) n more s ∙ rec (omega arith) ∙ sym (digits_more (suc f) n more s))

pub decimal_one : (n : ℕ) → n < 10 → decimal n ≡ (48 + n) ∷ []
decimal_one n h = digits_one 9 n [] h

pub decimal_last : (n : ℕ) → 10 ≤ n → n < 4294967296 → decimal n ≡ decimal (n / 10) ++ ((48 + n % 10) ∷ [])
decimal_last n h small =
    digits_more 9 n [] h ∙ digits_before 9 (n / 10) [] ((48 + n % 10) ∷ [])
    ∙ ap (λ (l : List ℕ). l ++ ((48 + n % 10) ∷ [])) (sym (digits_enough 8 (n / 10) [] (omega arith)))

-- two digits at once: all there are, or the last ones
pub decimal_two : (n : ℕ) → 10 ≤ n → n < 100 → decimal n ≡ (48 + n / 10) ∷ (48 + n % 10) ∷ []
decimal_two n h small = decimal_last n h (omega arith) ∙ ap (λ (l : List ℕ). l ++ ((48 + n % 10) ∷ [])) (decimal_one (n / 10) (omega arith))

pub decimal_pair : (n : ℕ) → 100 ≤ n → n < 4294967296 → decimal n ≡ decimal (n / 100) ++ ((48 + n % 100 / 10) ∷ (48 + n % 100 % 10) ∷ [])
decimal_pair n h small =
    let a : n / 10 / 10 ≡ n / 100 = omega arith in
    let b : n / 10 % 10 ≡ n % 100 / 10 = omega arith in
    let e : n % 10 ≡ n % 100 % 10 = omega arith in
    decimal_last n (omega arith) small
    ∙ ap (λ (l : List ℕ). l ++ ((48 + n % 10) ∷ [])) (decimal_last (n / 10) (omega arith) (omega arith))
    ∙ append_assoc (decimal (n / 10 / 10)) ((48 + n / 10 % 10) ∷ []) ((48 + n % 10) ∷ [])
    ∙ ap (λ (m : ℕ). decimal m ++ ((48 + n / 10 % 10) ∷ (48 + n % 10) ∷ [])) a
    ∙ ap (λ (m : ℕ). decimal (n / 100) ++ ((48 + m) ∷ (48 + n % 10) ∷ [])) b
    ∙ ap (λ (m : ℕ). decimal (n / 100) ++ ((48 + n % 100 / 10) ∷ (48 + m) ∷ [])) e

-- ---- lengths ---------------------------------------------------------------------------------------------------------------------------

pub digits_length : (g f n : ℕ) (more : List ℕ) → n < ten (suc g) → length (digits f n more) ≤ suc g + length more
unfolding digits
digits_length g zero n more h = omega arith
digits_length zero (suc f) n more h = let e = ap length (digits_one f n more (omega arith)) in omega arith
digits_length (suc g) (suc f) n more h =
    let rec : n / 10 < ten (suc g) → _ = digits_length g f (n / 10) ((48 + n % 10) ∷ more) in
    small_or_not n
    (λ s. let e = ap length (digits_one f n more s) in omega arith)
    (λ s. let e = ap length (digits_more f n more s) in let r = rec (omega arith) in omega arith)

-- at most so many digits
pub decimal_length : (g n : ℕ) → n < ten (suc g) → length (decimal n) ≤ suc g
decimal_length g n h = let a = digits_length g 10 n [] h in omega arith

-- and at least one
pub decimal_some : (n : ℕ) → n < 4294967296 → 1 ≤ length (decimal n)
decimal_some n h =
    small_or_not n
    (λ s. let e = ap length (decimal_one n s) in omega arith)
    (λ s. let e = ap length (decimal_last n s h) in let l = length-append (decimal (n / 10)) ((48 + n % 10) ∷ []) in omega arith)

-- no number is written in more than ten
pub digits_most : (f n : ℕ) (more : List ℕ) → length (digits f n more) ≤ f + length more
unfolding digits
digits_most zero n more = omega arith
digits_most (suc f) n more =
    let rec = digits_most f (n / 10) ((48 + n % 10) ∷ more) in
    small_or_not n
    (λ s. let e = ap length (digits_one f n more s) in omega arith)
    (λ s. let e = ap length (digits_more f n more s) in omega arith)
