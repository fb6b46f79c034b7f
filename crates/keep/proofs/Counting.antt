-- Counts of shown cells: after one cell is shown anew, and of two boards compared cell by cell.
use mathlib.Core.Path.{◌≡◌, ◌∙◌, ap, subst, subst⁻¹}
use mathlib.Core.Bool.{Bool, true, false}
use mathlib.Core.List.{List}
use Prim.Native.Nat.{ℕ, ◌+◌, ◌<◌, ◌≤◌}
use native.Mathlib.Omega.{arith}
use lib.ListN.{length, get_or, set, replicate, length-set, length-replicate, get_or-replicate}
use lib.Seq.{get_or-set_same, get_or-set_other}
use Rattle.rules.specs.Words.{bit, count}
use Rattle.rules.specs.Opening.{count_shown}
use Rattle.cells.proofs.Words.{count_le, count_same, count_mono, count_none, count_zero, count_some, count_change}

pub shown_le : (f : ℕ → Bool) (l : List ℕ) → count_shown f l ≤ length l
unfolding count_shown
shown_le f l = count_le (λ i. f (get_or l i 0)) (length l)

pub shown_none : (f : ℕ → Bool) (l : List ℕ) → count_shown f l ≡ 0 → (i : ℕ) → i < length l → f (get_or l i 0) ≡ false
unfolding count_shown
shown_none f l e i h = count_none (λ i. f (get_or l i 0)) (length l) e i h

pub shown_zero : (f : ℕ → Bool) (l : List ℕ) → ((i : ℕ) → i < length l → f (get_or l i 0) ≡ false) → count_shown f l ≡ 0
unfolding count_shown
shown_zero f l h = count_zero (λ i. f (get_or l i 0)) (length l) h

pub shown_some : (f : ℕ → Bool) (l : List ℕ) (i : ℕ) → i < length l → f (get_or l i 0) ≡ true → 1 ≤ count_shown f l
unfolding count_shown
shown_some f l i h e = count_some (λ i. f (get_or l i 0)) (length l) i h e

pub shown_mono : (f : ℕ → Bool) (l l' : List ℕ) → length l' ≡ length l → ((i : ℕ) → i < length l → f (get_or l i 0) ≡ true → f (get_or l' i 0) ≡ true)
    → count_shown f l ≤ count_shown f l'
unfolding count_shown
shown_mono f l l' n h =
    subst⁻¹ (λ (m : ℕ). count (λ i. f (get_or l i 0)) (length l) ≤ count (λ i. f (get_or l' i 0)) m) n
    (count_mono (λ i. f (get_or l i 0)) (λ i. f (get_or l' i 0)) (length l) h)

pub shown_same : (f : ℕ → Bool) (l l' : List ℕ) → length l' ≡ length l → ((i : ℕ) → i < length l → f (get_or l' i 0) ≡ f (get_or l i 0))
    → count_shown f l' ≡ count_shown f l
unfolding count_shown
shown_same f l l' n h = ap (count (λ i. f (get_or l' i 0))) n ∙ count_same (λ i. f (get_or l' i 0)) (λ i. f (get_or l i 0)) (length l) h

-- one cell shown anew
pub shown_set : (f : ℕ → Bool) (l : List ℕ) (i x v : ℕ) → i < length l → get_or l i 0 ≡ x → count_shown f (set l i v) + bit (f x) ≡ count_shown f l + bit (f v)
unfolding count_shown
shown_set f l i x v h e =
    let a : count (λ j. f (get_or (set l i v) j 0)) (length l) + bit (f (get_or l i 0)) ≡ count (λ j. f (get_or l j 0)) (length l) + bit (f (get_or (set l i v) i 0)) =
    count_change (λ j. f (get_or l j 0)) (λ j. f (get_or (set l i v) j 0)) i (λ j ne. ap f (get_or-set_other l i j v 0 ne)) (length l) h in
    let u : bit (f (get_or (set l i v) i 0)) ≡ bit (f v) = ap (λ (y : ℕ). bit (f y)) (get_or-set_same l i v 0 h) in
    let w : bit (f (get_or l i 0)) ≡ bit (f x) = ap (λ (y : ℕ). bit (f y)) e in
    let n : count (λ j. f (get_or (set l i v) j 0)) (length (set l i v)) ≡ count (λ j. f (get_or (set l i v) j 0)) (length l) =
    ap (count (λ j. f (get_or (set l i v) j 0))) (length-set l i v) in
    omega arith

-- all cells show the same
pub shown_replicate : (f : ℕ → Bool) (n v : ℕ) → f v ≡ false → count_shown f (replicate n v) ≡ 0
shown_replicate f n v e =
    shown_zero f (replicate n v) (λ i h. ap f (get_or-replicate n i v 0 (subst (λ (m : ℕ). i < m) (length-replicate n v) h)) ∙ e)
