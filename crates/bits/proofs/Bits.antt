-- What setting a bit does to every bit: the one is set, all others are as they were. Callers cite these and never open the definitions.
use mathlib.Core.Path.{◌≡◌, ◌∙◌, sym, ap, refl}
use mathlib.Core.Bool.{true, false}
use mathlib.Core.List.{List}
use Prim.Native.Nat.{ℕ, zero, suc, ◌+◌, ◌-◌, ◌/◌, ◌%◌, ◌^◌, ◌<◌}
use native.Mathlib.Nat.{one-mul, mod-lt, div-eq_of_lt}
use native.Mathlib.Decide.{dec_lt, ℕ_discrete}
use native.Mathlib.Omega.{arith}
use lib.Dec.{eqb, lit<}
use lib.Bits.{bit_or, or_shr, or_mod, or_zero_r, shifted_even}
use lib.Pow.{pow_pos, pow-add, pow-lt, shl-shr}
use lib.ListN.{length, get_or, set, length-set, replicate, length-replicate, get_or-replicate, get_or-eq_default}
use lib.Seq.{get_or-set_same, get_or-set_other}
use Rattle.rules.specs.Lent.{bit_at, with_bit}

-- bit k of `b | 2^j`
or_bit : (b j k : ℕ) → bit_or b (2 ^ j) / 2 ^ k % 2 ≡ bit_or (b / 2 ^ k % 2) (2 ^ j / 2 ^ k % 2)
or_bit b j k = ap (λ (x : ℕ). x % 2) (or_shr b (2 ^ j) k) ∙ or_mod (b / 2 ^ k) (2 ^ j / 2 ^ k) 1

or_one : (x : ℕ) → x < 2 → bit_or x 1 ≡ 1
or_one zero h = refl
or_one (suc zero) h = refl
or_one (suc (suc x)) h = absurd (omega arith)

own : (k : ℕ) → 2 ^ k / 2 ^ k % 2 ≡ 1
own k = ap (λ (x : ℕ). x / 2 ^ k % 2) (sym (one-mul (2 ^ k))) ∙ ap (λ (x : ℕ). x % 2) (shl-shr 1 k)

above : (d k : ℕ) → 2 ^ (suc d + k) / 2 ^ k % 2 ≡ 0
above d k =
    ap (λ (x : ℕ). x / 2 ^ k % 2) (pow-add 2 (suc d) k) ∙ ap (λ (x : ℕ). x % 2) (shl-shr (2 ^ suc d) k)
    ∙ ap (λ (x : ℕ). x % 2) (sym (one-mul (2 ^ suc d))) ∙ shifted_even 1 d

apart : (j k : ℕ) → (j ≡ k → ⊥) → Dec (j < k) → 2 ^ j / 2 ^ k % 2 ≡ 0
apart j k ne (yes h) = ap (λ (x : ℕ). x % 2) (div-eq_of_lt (pow-lt h))
apart j k ne (no h) =
    let e : suc (j - suc k) + k ≡ j = omega arith in
    ap (λ (i : ℕ). 2 ^ i / 2 ^ k % 2) (sym e) ∙ above (j - suc k) k

set_own : (b k : ℕ) → bit_or b (2 ^ k) / 2 ^ k % 2 ≡ 1
set_own b k = or_bit b k k ∙ ap (bit_or (b / 2 ^ k % 2)) (own k) ∙ or_one (b / 2 ^ k % 2) (mod-lt (b / 2 ^ k) (lit< tt))

set_apart : (b j k : ℕ) → (j ≡ k → ⊥) → bit_or b (2 ^ j) / 2 ^ k % 2 ≡ b / 2 ^ k % 2
set_apart b j k ne = or_bit b j k ∙ ap (bit_or (b / 2 ^ k % 2)) (apart j k ne (dec_lt j k)) ∙ or_zero_r (b / 2 ^ k % 2)

pub bit_set : (l : List ℕ) (n : ℕ) → n / 8 < length l → bit_at (with_bit l n) n ≡ true
unfolding bit_at with_bit
bit_set l n h =
    ap (λ (x : ℕ). eqb (x / 2 ^ (n % 8) % 2) 1) (get_or-set_same l (n / 8) (bit_or (get_or l (n / 8) 0) (2 ^ (n % 8))) 0 h)
    ∙ ap (λ (x : ℕ). eqb x 1) (set_own (get_or l (n / 8) 0) (n % 8))

kept_by : (l : List ℕ) (n m : ℕ) → n / 8 < length l → (n ≡ m → ⊥) → Dec (m / 8 ≡ n / 8) → bit_at (with_bit l n) m ≡ bit_at l m
unfolding bit_at with_bit
kept_by l n m h ne (no q) =
    ap (λ (x : ℕ). eqb (x / 2 ^ (m % 8) % 2) 1) (get_or-set_other l (n / 8) (m / 8) (bit_or (get_or l (n / 8) 0) (2 ^ (n % 8))) 0 q)
kept_by l n m h ne (yes q) =
    let b : ℕ = get_or l (n / 8) 0 in
    let r : (n % 8 ≡ m % 8 → ⊥) = λ e. ne (omega arith) in
    ap (λ (i : ℕ). eqb (get_or (set l (n / 8) (bit_or b (2 ^ (n % 8)))) i 0 / 2 ^ (m % 8) % 2) 1) q
    ∙ ap (λ (x : ℕ). eqb (x / 2 ^ (m % 8) % 2) 1) (get_or-set_same l (n / 8) (bit_or b (2 ^ (n % 8))) 0 h)
    ∙ ap (λ (x : ℕ). eqb x 1) (set_apart b (n % 8) (m % 8) r)
    ∙ ap (λ (i : ℕ). eqb (get_or l i 0 / 2 ^ (m % 8) % 2) 1) (sym q)

pub bit_kept : (l : List ℕ) (n m : ℕ) → n / 8 < length l → (n ≡ m → ⊥) → bit_at (with_bit l n) m ≡ bit_at l m
bit_kept l n m h ne = kept_by l n m h ne (ℕ_discrete (m / 8) (n / 8))

pub bit_length : (l : List ℕ) (n : ℕ) → length (with_bit l n) ≡ length l
unfolding with_bit
bit_length l n = simp length-set

-- bytes that are 0 have no bit
zero_at_lem : (k n : ℕ) → Dec (n < k) → ◌≡◌ {A = ℕ} (get_or (replicate k 0) n 0) 0
zero_at_lem k n (yes h) = get_or-replicate k n 0 0 h
zero_at_lem k n (no h) = get_or-eq_default {A = ℕ} (replicate k 0) 0 (let e = length-replicate {A = ℕ} k 0 in omega arith)

pub bit_none : (k n : ℕ) → bit_at (replicate k 0) n ≡ false
unfolding bit_at
bit_none k n =
    ap (λ (x : ℕ). eqb (x / 2 ^ (n % 8) % 2) 1) (zero_at_lem k (n / 8) (dec_lt (n / 8) k))
    ∙ ap (λ (x : ℕ). eqb (x % 2) 1) (div-eq_of_lt {n = 0} {m = 2 ^ (n % 8)} (pow_pos (n % 8)))

-- a cell's bit is in the bytes
pub bit_room : (cells n : ℕ) → n < cells → n / 8 < (cells + 7) / 8
bit_room cells n h = omega arith
