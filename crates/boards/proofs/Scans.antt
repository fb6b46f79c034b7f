-- Generic laws: scans that follow each other, and the search for the first that fails row by row.
use mathlib.Core.Path.{◌≡◌, refl, ap, sym, ◌∙◌}
use mathlib.Core.Bool.{Bool, true, false, ◌&&◌}
use Prim.Native.Nat.{ℕ, zero, suc, ◌+◌, ◌*◌, ◌<◌, ◌≤◌}
use native.Mathlib.Nat.{add-mul, one-mul}
use native.Mathlib.Omega.{arith}
use Rattle.rules.specs.Words.{every, first_not}
use Rattle.cells.proofs.Words.{and_both}
use Rattle.cells.proofs.Firsts.{first_none, first_at, first_fails}
use Rattle.cells.proofs.Grid.{cell_lt}

and_assoc : (a b c : Bool) → ((a && b) && c) ≡ (a && (b && c))
and_assoc true b c = refl
and_assoc false b c = refl

and_true : (a : Bool) → (a && true) ≡ a
and_true true = refl
and_true false = refl

-- a scan that is at its end
pub every_end : (f : ℕ → Bool) (n i : ℕ) → n ≤ i → i ≤ n → every f i ≡ true → every f n ≡ true
every_end f n i h k e = let d : n ≡ i = omega arith in ap (every f) d ∙ e

-- a scan goes on where another ended
pub every_add : (f : ℕ → Bool) (n m : ℕ) → every f (n + m) ≡ (every f n && every (λ i. f (n + i)) m)
unfolding every
every_add f n zero = let e : n + 0 ≡ n = omega arith in ap (every f) e ∙ sym (and_true (every f n))
every_add f n (suc m) =
    let e : n + suc m ≡ suc (n + m) = omega arith in
    ap (every f) e ∙ ap (λ (b : Bool). b && f (n + m)) (every_add f n m) ∙ and_assoc (every f n) (every (λ i. f (n + i)) m) (f (n + m))

-- ---- row by row ------------------------------------------------------------------------------------------------------------------------

-- the rows before `row` pass, and `column` is the first of this row that fails, or its end
module _ (f : ℕ → Bool) (C row column : ℕ) (before : every f (row * C) ≡ true) (e : column ≡ first_not (λ j. f (row * C + j)) C) where
  abbrev in_row : ℕ → Bool
  in_row j = f (row * C + j)

  pub row_found : (R n : ℕ) → n ≡ R * C → row < R → column < C → row * C + column ≡ first_not f n
  row_found R n long h l = go (every in_row C) refl
    where
      go : (b : Bool) → every in_row C ≡ b → row * C + column ≡ first_not f n
      go true d = let q = first_none in_row C d in absurd (omega arith)
      go false d =
          let r = first_fails in_row C d in
          let k = cell_lt R C row column h l in
          sym
          (first_at f n (row * C + column) (omega arith)
          (every_add f (row * C) column ∙ and_both _ _ before (rw e r.1))
          (rw e r.2))

  pub row_passed : C ≤ column → every f ((row + 1) * C) ≡ true
  row_passed l = go (every in_row C) refl
    where
      go : (b : Bool) → every in_row C ≡ b → every f ((row + 1) * C) ≡ true
      go true d = let q : (row + 1) * C ≡ row * C + C = omega (arith, add-mul row 1 C, one-mul C) in ap (every f) q ∙ every_add f (row * C) C ∙ and_both _ _ before d
      go false d = let r = (first_fails in_row C d).0 in absurd (omega arith)
