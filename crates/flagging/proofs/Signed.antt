-- The signed remainder of a number after its flags: it fits a signed byte, the code's tests at negative, zero and positive read it, and what it says in plain numbers.
use mathlib.Core.Path.{◌≡◌, ◌∙◌, sym, ap, refl, subst, subst⁻¹}
use mathlib.Core.Bool.{Bool, true, false, cond, false≢true}
use Prim.Native.Nat.{ℕ, zero, suc, ◌+◌, ◌-◌, ◌<◌, ◌≤◌}
use native.Mathlib.Nat.{not-suc-le-zero}
use native.Mathlib.Omega.{arith}
use borrow.Author.Tests.{ltb-true, ltb-false, eqb-true, eq-eqb, le-ltb, lt-ltb}
use lib.Dec.{T, eqb, ltb}
use lib.IntN.{ℤ, pos, negsuc, nat_abs, ◌-ℤ◌}
use lib.Signed.{mag, non_neg, lt_z}
use mir.Syntax.{w8}
use mir.Val.{Fits, SFits, to_z, of_z}
use mir.Facts.{to_z-of_z, to_z_pos, Fits-nat_abs}
use Rattle.rules.specs.Passes.{remainder, all_closed_of}

read_back : (z : ℤ) → mag z < 128 → to_z w8 (of_z w8 z) ≡ z
read_back z h = to_z-of_z {w = w8} {z = z} (record { sfits = h })

either : (t : Bool) (x y : ℤ) → mag x < 128 → mag y < 128 → mag (cond t x y) < 128
either true x y hx hy = hx
either false x y hx hy = hy

pub small : (a b : ℕ) → a < 9 → b < 9 → mag (remainder a b) < 128
small a zero ha hb = omega arith
small a (suc b) ha hb = either (ltb a (suc b)) (negsuc (suc b - suc a)) (pos (a - suc b)) (omega arith) (omega arith)

module _ (a b : ℕ) (ha : a < 9) (hb : b < 9) where
  as_numbers : to_z w8 a -ℤ to_z w8 b ≡ remainder a b
  as_numbers =
      ap (λ (x : ℤ). x -ℤ to_z w8 b) (to_z_pos w8 {n = a} (omega arith)) ∙ ap (λ (y : ℤ). pos a -ℤ y) (to_z_pos w8 {n = b} (omega arith))

  pub sub_fits : SFits w8 (to_z w8 a -ℤ to_z w8 b)
  sub_fits = subst⁻¹ (λ (y : ℤ). SFits w8 y) as_numbers (record { sfits = small a b ha hb })

  pub sub_is : to_z w8 (of_z w8 (to_z w8 a -ℤ to_z w8 b)) ≡ remainder a b
  sub_is = ap (λ (y : ℤ). to_z w8 (of_z w8 y)) as_numbers ∙ read_back (remainder a b) (small a b ha hb)

-- ---- tested at negative, zero and positive ----------------------------------------------------------------------------------------------

negative : (z : ℤ) (k : ℕ) → lt_z z (pos 0) ≡ true → all_closed_of z k ≡ false
unfolding all_closed_of
negative (pos n) k t = absurd (not-suc-le-zero (ltb-true n 0 t))
negative (negsuc n) k t = refl

pub at_zero : (z : ℤ) (k : ℕ) → of_z w8 z ≡ 0 → all_closed_of z k ≡ false
unfolding all_closed_of
at_zero (pos zero) k e = refl
at_zero (pos (suc n)) k e = absurd (omega arith)
at_zero (negsuc n) k e = refl

positive : (z : ℤ) (k : ℕ) → lt_z z (pos 0) ≡ false → (of_z w8 z ≡ 0 → ⊥) → eqb (nat_abs z) k ≡ all_closed_of z k
unfolding all_closed_of
positive (pos zero) k t e = absurd (e refl)
positive (pos (suc n)) k t e = refl
positive (negsuc n) k t e = absurd (let x : ◌≡◌ {A = ℕ} 0 1 = cc in omega arith)

not_below : (z : ℤ) → lt_z z (pos 0) ≡ false → T (non_neg z)
not_below (pos n) t = tt
not_below (negsuc n) t = absurd (let x : ◌≡◌ {A = ℕ} 0 1 = cc in omega arith)

module _ (z : ℤ) (k : ℕ) (h : mag z < 128) where
  pub at_negative : lt_z (to_z w8 (of_z w8 z)) (pos 0) ≡ true → all_closed_of z k ≡ false
  at_negative t = negative z k (subst (λ (y : ℤ). lt_z y (pos 0) ≡ true) (read_back z h) t)

  pub at_positive : lt_z (to_z w8 (of_z w8 z)) (pos 0) ≡ false → (of_z w8 z ≡ 0 → ⊥) → eqb (nat_abs (to_z w8 (of_z w8 z))) k ≡ all_closed_of z k
  at_positive t e =
      ap (λ (y : ℤ). eqb (nat_abs y) k) (read_back z h)
      ∙ positive z k (subst (λ (y : ℤ). lt_z y (pos 0) ≡ false) (read_back z h) t) e

  pub as_byte : lt_z (to_z w8 (of_z w8 z)) (pos 0) ≡ false → T (non_neg (to_z w8 (of_z w8 z))) × Fits w8 (nat_abs (to_z w8 (of_z w8 z)))
  as_byte t =
      subst⁻¹ (λ (y : ℤ). T (non_neg y) × Fits w8 (nat_abs y)) (read_back z h)
      (not_below z (subst (λ (y : ℤ). lt_z y (pos 0) ≡ false) (read_back z h) t), Fits-nat_abs {w = w8} {w' = w8} {z = z} tt (record { sfits = h }))

-- ---- in plain numbers --------------------------------------------------------------------------------------------------------------------

minus_is : (v f : ℕ) → f ≤ v → remainder v f ≡ pos (v - f)
minus_is v zero h = ap pos (omega arith)
minus_is v (suc f) h = rw (le-ltb v (suc f) h)

minus_below : (v f n : ℕ) → v < f → all_closed_of (remainder v f) n ≡ false
unfolding all_closed_of
minus_below v zero n h = absurd (omega arith)
minus_below v (suc f) n h = rw (lt-ltb v (suc f) h)

above_true : (m n : ℕ) → all_closed_of (pos m) n ≡ true → (0 < m) × (m ≡ n)
unfolding all_closed_of
above_true zero n e = absurd (false≢true e)
above_true (suc m) n e = (omega arith, eqb-true (suc m) n e)

above_yes : (m n : ℕ) → 0 < m → m ≡ n → all_closed_of (pos m) n ≡ true
unfolding all_closed_of
above_yes zero n h e = absurd (omega arith)
above_yes (suc m) n h e = eq-eqb (suc m) n e

-- fewer flags than the number, and the closed cells make up the rest
pub all_closed_true : (v f n : ℕ) → all_closed_of (remainder v f) n ≡ true → (f < v) × (v ≡ f + n)
all_closed_true v f n e = go (ltb v f) refl
  where
    go : (b : Bool) → ltb v f ≡ b → (f < v) × (v ≡ f + n)
    go true d = absurd (false≢true (sym (minus_below v f n (ltb-true _ _ d)) ∙ e))
    go false d =
        let h = ltb-false _ _ d in
        let a = above_true (v - f) n (ap (λ (z : ℤ). all_closed_of z n) (sym (minus_is v f h)) ∙ e) in
        (omega (arith, a.0), omega (arith, a.0, a.1))

pub all_closed_yes : (v f n : ℕ) → f < v → v ≡ f + n → all_closed_of (remainder v f) n ≡ true
all_closed_yes v f n h e = ap (λ (z : ℤ). all_closed_of z n) (minus_is v f (omega arith)) ∙ above_yes (v - f) n (omega arith) (omega arith)
