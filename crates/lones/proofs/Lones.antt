-- Lone numbers: the ways through the code, and their counts over a chord's cells, and over those not open of a row and of the board.
use mathlib.Core.Path.{◌≡◌, refl, ap, ap₂, sym, ◌∙◌}
use mathlib.Core.Bool.{Bool, true, false, not, ◌&&◌}
use mathlib.Core.List.{List, [], ◌∷◌}
use Prim.Native.Nat.{ℕ, zero, suc, ◌+◌, ◌*◌, ◌/◌, ◌%◌, ◌<◌, ◌≤◌}
use native.Mathlib.Nat.{suc-mul, mul-le-mul_right}
use native.Mathlib.Omega.{arith}
use native.Mathlib.Numerals.{add-one}
use borrow.Author.Tests.{le-leb, lt-leb, ne_eqb}
use lib.Dec.{eqb, leb, ltb}
use lib.ListN.{length, get_or}
use lib.IntN.{ℤ, pos}
use Rattle.rules.specs.Words.{bit, stack_of}
use Rattle.rules.specs.Grid.{cell_of, around, push_if, cells_if}
use Rattle.rules.specs.Board.{face_at, zero_at, lone_at}
use Rattle.rules.specs.Judging.{lones, not_open_at}
use Rattle.cells.specs.Ground.{Mined, face_is}
use Rattle.cells.proofs.Words.{bit_le, stack_length}
use Rattle.cells.proofs.Grid.{cell_back}
use Rattle.cells.proofs.Face.{face_safe}
use Rattle.lones.specs.Counts.{Lone, LoneRow}

-- ---- one cell ------------------------------------------------------------------------------------------------------------------------

none_beside : (n : ℕ) → not (leb 1 n) ≡ eqb n 0
none_beside zero = refl
none_beside (suc n) = ap not (le-leb 1 (suc n) (omega arith)) ∙ sym (ne_eqb (suc n) 0 (λ e. omega arith))

module _ (B : List ℤ) (R C i : ℕ) where
  pub lone_zero : face_at B i ≡ 0 → lone_at B R C i ≡ false
  unfolding lone_at
  lone_zero e = simp e

  pub lone_mine : face_at B i ≡ 15 → lone_at B R C i ≡ false
  unfolding lone_at
  lone_mine e = simp e

  pub lone_no_zero : (v : ℕ) → v ≡ face_at B i → v ≡ 0 → false ≡ lone_at B R C i
  lone_no_zero v f z = sym (lone_zero (sym f ∙ z))

  pub lone_no_mine : (v : ℕ) → v ≡ face_at B i → v ≡ 15 → false ≡ lone_at B R C i
  lone_no_mine v f z = sym (lone_mine (sym f ∙ z))

  -- a number: a 0 beside it decides
  pub lone_number : Mined B R C → i < R * C → (face_at B i ≡ 0 → ⊥) → (face_at B i ≡ 15 → ⊥) → (b : Bool) → b ≡ leb 1 (around R C (face_is B 0) i) → not b ≡ lone_at B R C i
  unfolding lone_at zero_at
  lone_number m on z k b e =
      let s : face_at B i ≤ 8 = face_safe (get_or B i (pos 0)) (m.valued i (rw m.long on)) k in
      let o : 1 ≤ face_at B i = omega arith in
      simp (le-leb _ _ o, le-leb _ _ s, ap not e ∙ none_beside (around R C (face_is B 0) i))

pub lone_cell : (B : List ℤ) (R C i : ℕ) {b : Bool} → b ≡ lone_at B R C (cell_of C (i / C) (i % C)) → b ≡ lone_at B R C i
lone_cell B R C i e = e ∙ ap (lone_at B R C) (cell_back C i)

-- ---- a cell that is not open -----------------------------------------------------------------------------------------------------------

module _ (shown : List ℕ) (i : ℕ) where
  -- past the shown board
  pub not_open_off : length shown ≤ i → true ≡ not_open_at shown i
  unfolding not_open_at
  not_open_off h = rw (le-leb _ _ h)

  -- on it
  pub not_open_on : i < length shown → ltb 8 (get_or shown i 0) ≡ not_open_at shown i
  unfolding not_open_at
  not_open_on h = rw (lt-leb _ _ h)

-- ---- a chord's cells -----------------------------------------------------------------------------------------------------------------

module _ (B : List ℤ) (R C : ℕ) where
  lones_length : (cells : List ℕ) → lones B R C cells ≤ length cells
  unfolding lones
  lones_length [] = omega arith
  lones_length (i ∷ st) = omega (arith, lones_length st, bit_le (lone_at B R C i))

  pub cells_none : (at : List ℕ) → 0 ≡ lones B R C (stack_of at 0)
  unfolding lones stack_of
  cells_none at = refl

  pub cells_more : (at : List ℕ) (k sum q : ℕ) (b : Bool) (n : ℕ) → sum ≡ lones B R C (stack_of at k) → q ≡ get_or at k 0 → b ≡ lone_at B R C q → n ≡ bit b → sum + n ≡ lones B R C (stack_of at (k + 1))
  unfolding lones stack_of
  cells_more at k sum q b n e d h o = rw add-one (ap₂ (λ (x y : ℕ). x + y) e (o ∙ ap bit (h ∙ ap (lone_at B R C) d)))

  pub cells_few : (at : List ℕ) (k : ℕ) {sum : ℕ} → sum ≡ lones B R C (stack_of at k) → sum ≤ k
  cells_few at k e = rw e (let a = lones_length (stack_of at k) in let b = stack_length at k in omega arith)

  pub cells_done : (at : List ℕ) (n sum : ℕ) → n ≤ 8 → sum ≡ lones B R C (stack_of at n) → Lone B R C (stack_of at n) sum
  cells_done at n sum h e = record { answer = e; few = let b = cells_few at n e in omega arith }

  -- ---- those that pass a test, of a row and of the board ------------------------------------------------------------------------------

  -- a cell that does not pass counts for nothing
  pub lones_if : (b : Bool) (i : ℕ) (st : List ℕ) → lones B R C (push_if b i st) ≡ lones B R C st + bit (b && lone_at B R C i)
  unfolding lones
  lones_if true i st = refl
  lones_if false i st = omega arith

  module _ (due : ℕ → Bool) where
    pub row_none : (from : ℕ) → LoneRow B R C due from 0 0
    row_none from = record { answer = let e : from + 0 ≡ from = omega arith in rw e (omega arith); few = omega arith }

    more : (n : ℕ) → lones B R C (cells_if due (n + 1)) ≡ lones B R C (cells_if due n) + bit (due n && lone_at B R C n)
    unfolding cells_if
    more n = rw add-one (lones_if (due n) n (cells_if due n))

    -- one cell more
    pub row_more : (from n sum : ℕ) (b : Bool) (one : ℕ) → LoneRow B R C due from n sum → b ≡ (due (from + n) && lone_at B R C (from + n)) → one ≡ bit b
        → LoneRow B R C due from (n + 1) (sum + one)
    row_more from n sum b one l h o =
        let e : from + (n + 1) ≡ from + n + 1 = omega arith in
        let d : one ≡ bit (due (from + n) && lone_at B R C (from + n)) = o ∙ ap bit h in
        let k = bit_le (due (from + n) && lone_at B R C (from + n)) in
        record { answer = rw (e, more (from + n)) (omega (arith, l.answer)); few = omega (arith, l.few) }

    -- one row more
    pub board_more : (row sum one : ℕ) → LoneRow B R C due 0 (row * C) sum → LoneRow B R C due (row * C) C one → LoneRow B R C due 0 ((row + 1) * C) (sum + one)
    board_more row sum one l r =
        let e : (row + 1) * C ≡ row * C + C = rw add-one (suc-mul row C) in
        rw e (record { answer = go; few = omega (arith, l.few, r.few) })
      where
        zero_plus : (n : ℕ) → 0 + n ≡ n
        zero_plus n = omega arith

        go : lones B R C (cells_if due 0) + (sum + one) ≡ lones B R C (cells_if due (0 + (row * C + C)))
        go =
            let a : lones B R C (cells_if due 0) + sum ≡ lones B R C (cells_if due (row * C)) = l.answer ∙ ap (λ (n : ℕ). lones B R C (cells_if due n)) (zero_plus (row * C)) in
            rw (zero_plus (row * C + C)) (omega (arith, r.answer))

    pub board_few : (row sum : ℕ) → LoneRow B R C due 0 (row * C) sum → row ≤ R → sum ≤ R * C
    board_few row sum l h = omega (arith, l.few, mul-le-mul_right C h)

    pub board_none : LoneRow B R C due 0 (0 * C) 0
    board_none = let e : 0 * C ≡ 0 = omega arith in rw e (row_none 0)
