-- Numbers with a space before each: what a loop over them has still to write, the parts of a line, and how long they can be.
use mathlib.Core.Path.{◌≡◌, refl, ap, ◌∙◌}
use mathlib.Core.List.{List, [], ◌∷◌, ◌++◌}
use Prim.Native.Nat.{ℕ, suc, ◌+◌, ◌*◌, ◌<◌, ◌≤◌}
use native.Mathlib.Omega.{arith}
use native.Mathlib.Nat.{mul-suc}
use lib.ListN.{length, get_or, drop, length-append}
use Rattle.rules.specs.Printout.{decimal, spaced, line_of}
use Rattle.cells.specs.Ground.{Below}
use Rattle.writing.proofs.Putting.{each_turn, each_done}
use Rattle.writing.proofs.Decimal.{ten, decimal_length, digits_most}

pub spaced_next : (x : ℕ) (xs : List ℕ) → spaced (x ∷ xs) ≡ (32 ∷ decimal x) ++ spaced xs
unfolding spaced
spaced_next x xs = refl

pub spaced_none : spaced [] ≡ []
unfolding spaced
spaced_none = refl

pub spaced_turn : (ns : List ℕ) (i : ℕ) {n : ℕ} → n ≡ get_or ns i 0 → i < length ns → spaced (drop i ns) ≡ (32 ∷ decimal n) ++ spaced (drop (i + 1) ns)
spaced_turn ns i e h = rw e (each_turn (λ x. 32 ∷ decimal x) spaced spaced_none spaced_next ns i h)

pub spaced_done : (ns : List ℕ) (i : ℕ) → length ns ≤ i → spaced (drop i ns) ≡ []
spaced_done = each_done (λ x. 32 ∷ decimal x) spaced spaced_none spaced_next

-- a line is its first number, the others, and the end
pub line_parts : (n : ℕ) (ns : List ℕ) → line_of (n ∷ ns) ≡ decimal n ++ (spaced ns ++ (10 ∷ []))
unfolding line_of
line_parts n ns = refl

-- ---- lengths ---------------------------------------------------------------------------------------------------------------------------

pub one_longer : (x : ℕ) (xs : List ℕ) → length (spaced (x ∷ xs)) ≡ suc (length (decimal x) + length (spaced xs))
one_longer x xs = ap length (spaced_next x xs) ∙ ap suc (length-append (decimal x) (spaced xs))

-- each number has at most so many digits
abbrev pub Few : ℕ → List ℕ → Type 0
Few k [] = Unit {0}
Few k (x ∷ xs) = (length (decimal x) ≤ k) × Few k xs

pub few_below : (g : ℕ) (ns : List ℕ) → Below (ten (suc g)) ns → Few (suc g) ns
few_below g [] b = tt
few_below g (x ∷ xs) b = (decimal_length g x b.0, few_below g xs b.1)

pub few_any : (ns : List ℕ) → Few 10 ns
few_any [] = tt
few_any (x ∷ xs) = (let d = digits_most 10 x [] in omega arith, few_any xs)

pub spaced_length : (k : ℕ) (ns : List ℕ) → Few k ns → length (spaced ns) ≤ suc k * length ns
spaced_length k [] b = let e = ap length spaced_none in omega arith
spaced_length k (x ∷ xs) b =
    let rec = spaced_length k xs b.1 in
    let d = b.0 in
    let e = one_longer x xs in
    let m = mul-suc (suc k) (length xs) in
    omega arith

-- a list whose every entry is below m
pub below_all : (m : ℕ) (l : List ℕ) → ((i : ℕ) → get_or l i 0 < m) → Below m l
below_all m [] h = tt
below_all m (x ∷ xs) h = (h 0, below_all m xs (λ i. h (suc i)))
