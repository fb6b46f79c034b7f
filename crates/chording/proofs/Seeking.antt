-- The search for the next useful cell: a row from a column on, a row whose inner cells are looked at as a whole, and the rows below.
use mathlib.Core.Path.{◌≡◌, refl, ap, ap₂, sym, ◌∙◌}
use mathlib.Core.Bool.{Bool, true, false, not, false≢true, ◌&&◌}
use mathlib.Core.List.{List}
use Prim.Native.Nat.{ℕ, ◌+◌, ◌-◌, ◌*◌, ◌<◌, ◌≤◌}
use native.Mathlib.Omega.{arith}
use native.Mathlib.Decide.{ℕ_discrete}
use native.Mathlib.Nat.{add-mul, mul-le-mul_right}
use borrow.Author.Tests.{not-true, ltb-true, ltb-false}
use lib.Dec.{ltb, eqb}
use lib.ListN.{get_or}
use Rattle.rules.specs.Words.{every}
use Rattle.rules.specs.Grid.{cell_of}
use Rattle.rules.specs.Opening.{closed_at}
use Rattle.rules.specs.Clicks.{flag_at, chord_is_useful}
use Rattle.cells.proofs.Words.{every_at}
use Rattle.cells.specs.Ground.{ring}
use Rattle.cells.proofs.Grid.{Inner, first_of, cell_lt, inner_around}
use Rattle.chording.specs.Seeking.{First, useful_inside, OnlyEnds}

-- ---- the first that passes -------------------------------------------------------------------------------------------------------------

module _ (p : ℕ → Bool) (a n : ℕ) where
  -- none passed before i: the loop's invariant
  pub record Sought (i : ℕ) : Type 0 where
    pub up : a ≤ i
    pub most : i ≤ n
    pub none : (j : ℕ) → a ≤ j → j < i → p j ≡ false

  pub sought_start : a ≤ n → Sought a
  sought_start h = record { up = omega arith; most = h; none = λ j l m. absurd (omega arith) }

  pub sought_found : (i : ℕ) → Sought i → p i ≡ true → First p a n i
  sought_found i s e = record { up = s.up; most = s.most; none = s.none; some = λ h. e }

  pub sought_done : (i : ℕ) → Sought i → n ≤ i → First p a n n
  sought_done i s h =
      let up = s.up in
      let most = s.most in
      record { up = omega arith; most = omega arith; none = λ j l m. s.none j l (omega arith); some = λ m. absurd (omega arith) }

  pub sought_turn : (i : ℕ) → Sought i → i < n → p i ≡ false → Sought (i + 1)
  sought_turn i s h e = let up = s.up in record { up = omega arith; most = omega arith; none = λ j l m. go j l m (ℕ_discrete j i) }
    where
      go : (j : ℕ) → a ≤ j → j < i + 1 → Dec (j ≡ i) → p j ≡ false
      go j l m (yes d) = ap p d ∙ e
      go j l m (no d) = s.none j l (omega arith)

-- none up to i, and none from there on
module _ (p : ℕ → Bool) (a n i : ℕ) (s : Sought p a n i) where
  split : (r : ℕ) → ((j : ℕ) → i ≤ j → j < r → p j ≡ false) → (j : ℕ) → a ≤ j → j < r → (b : Bool) → ltb j i ≡ b → p j ≡ false
  split r f j l m true e = s.none j l (ltb-true j i e)
  split r f j l m false e = f j (ltb-false j i e) m

  pub sought_on : (r : ℕ) → Sought p i n r → Sought p a n r
  sought_on r t =
      let lower = s.up in
      let upper = t.up in
      record { up = omega arith; most = t.most; none = λ j l m. split r t.none j l m (ltb j i) refl }

  pub sought_first : (r : ℕ) → First p i n r → First p a n r
  sought_first r f =
      let lower = s.up in
      let upper = f.up in
      record { up = omega arith; most = f.most; none = λ j l m. split r f.none j l m (ltb j i) refl; some = f.some }

-- ---- a row of the board ------------------------------------------------------------------------------------------------------------------

module _ (p : ℕ → Bool) (R C row : ℕ) (h : row < R) (a b c : ℕ) (e : b ≡ row * C + a) (f : First (λ k. p (row * C + k)) a C c) where
  row_none : (j : ℕ) → b ≤ j → j < row * C + c → p j ≡ false
  row_none j l m =
      let d : row * C + (j - row * C) ≡ j = omega arith in
      ap p (sym d) ∙ f.none (j - row * C) (omega arith) (omega arith)

  -- a cell of the row was found
  pub row_found : c < C → First p b (R * C) (row * C + c)
  row_found l =
      let up = f.up in
      let most = cell_lt R C row c h l in
      record { up = omega arith; most = omega arith; none = row_none; some = λ m. f.some l }

  -- there was none: on with the next row
  pub row_passed : C ≤ c → Sought p b (R * C) ((row + 1) * C)
  row_passed l =
      let up = f.up in
      let most = f.most in
      let next : (row + 1) * C ≡ row * C + 1 * C = add-mul row 1 C in
      let below : (row + 1) * C ≤ R * C = let l : row + 1 ≤ R = omega arith in mul-le-mul_right C l in
      record { up = omega arith; most = below; none = λ j u m. row_none j u (omega arith) }

-- from the first row on is from the first cell on
pub first_whole : (p : ℕ → Bool) (C n r : ℕ) → First p (0 * C) n r → First p 0 n r
first_whole p C n r f = record { up = omega arith; most = f.most; none = λ j l m. f.none j (omega arith) m; some = f.some }

-- ---- a row whose inner cells are looked at as a whole ------------------------------------------------------------------------------------

-- a cell with all its neighbours, from the first of the nine
pub useful_inner : (R C : ℕ) (shown : List ℕ) (row c : ℕ) → Inner R C row c → chord_is_useful R C shown (cell_of C row c) ≡ useful_inside C shown (first_of C row c)
unfolding chord_is_useful
useful_inner R C shown row c i =
    let above = i.above in
    let before = i.before in
    let m : (row - 1 + 1) * C ≡ (row - 1) * C + 1 * C = add-mul (row - 1) 1 C in
    let r : row - 1 + 1 ≡ row = omega arith in
    let n : row * C ≡ (row - 1 + 1) * C = ap (λ (x : ℕ). x * C) (sym r) in
    let e : cell_of C row c ≡ first_of C row c + C + 1 = omega arith in
    ap₂ (λ (f k : ℕ). tests (get_or shown (cell_of C row c) 0) f k) (inner_around R C row c i (flag_at shown)) (inner_around R C row c i (closed_at shown))
    ∙ ap (λ (x : ℕ). tests (get_or shown x 0) (ring C (flag_at shown) (first_of C row c)) (ring C (closed_at shown) (first_of C row c))) e
  where
    tests : ℕ → ℕ → ℕ → Bool
    tests v f k = ltb v 8 && (eqb f v && ltb 0 k)

-- the row above, the row and the row below
pub three_rows : (R C row : ℕ) → 1 ≤ row → row + 1 < R → (row - 1) * C + 3 * C ≤ R * C
three_rows R C row above below =
    let e : (row - 1 + 3) * C ≡ (row - 1) * C + 3 * C = add-mul (row - 1) 3 C in
    let l : row - 1 + 3 ≤ R = omega arith in
    let m : (row - 1 + 3) * C ≤ R * C = mul-le-mul_right C l in
    omega arith

pub ends_no : (R C : ℕ) (shown : List ℕ) (row : ℕ) → OnlyEnds R C shown row false
ends_no R C shown row = record { none = λ e. absurd (false≢true e) }

pub ends_are : (R C : ℕ) (shown : List ℕ) (row : ℕ) (only : Bool) → 1 ≤ row → row + 1 < R
    → only ≡ every (λ k. not (useful_inside C shown ((row - 1) * C + k))) (C - 2) → OnlyEnds R C shown row only
ends_are R C shown row only above below e =
    record {
      none = λ t c l m.
          useful_inner R C shown row c (record { above = above; below = below; before = l; after = m })
          ∙ not-true _ (every_at (λ k. not (useful_inside C shown ((row - 1) * C + k))) (C - 2) (sym e ∙ t) (c - 1) (omega arith));
    }

-- the first cell is not useful, nor is one inside: on with the last
pub ends_sought : (R C : ℕ) (shown : List ℕ) (row : ℕ) (only : Bool) → OnlyEnds R C shown row only → only ≡ true → 1 ≤ C
    → chord_is_useful R C shown (cell_of C row 0) ≡ false → Sought (λ c. chord_is_useful R C shown (cell_of C row c)) 0 C (C - 1)
ends_sought R C shown row only o t l e = record { up = omega arith; most = omega arith; none = λ j u m. go j m (ℕ_discrete j 0) }
  where
    go : (j : ℕ) → j < C - 1 → Dec (j ≡ 0) → chord_is_useful R C shown (cell_of C row j) ≡ false
    go j m (yes d) = ap (λ (x : ℕ). chord_is_useful R C shown (cell_of C row x)) d ∙ e
    go j m (no d) = o.none t j (omega arith) (omega arith)
