-- Laws of the grid: a neighbour is a cell or none, it is found from its row and column, and place 7 - k leads back; counts and stacks around a cell.
use mathlib.Core.Path.{◌≡◌, refl, ap, ap₂, sym, ◌∙◌}
use mathlib.Core.Bool.{Bool, true, false, ◌&&◌}
use mathlib.Core.List.{List}
use Prim.Native.Nat.{ℕ, zero, suc, ◌+◌, ◌-◌, ◌*◌, ◌/◌, ◌%◌, ◌<◌, ◌≤◌}
use native.Mathlib.Nat.{div-add-mod', add-mul, mul-le-mul_right, div-lt_iff_lt-mul, mod-lt}
use native.Mathlib.Omega.{arith}
use lib.Arith.{digits_lt, digits_div, digits_mod}
use borrow.Author.Tests.{leb-true, leb-false, ltb-true, le-leb, lt-leb}
use lib.Dec.{leb, ltb}
use lib.ListN.{length}
use Rattle.rules.specs.Words.{pick, bit, count}
use Rattle.rules.specs.Grid.{size_ok, cell_of, ninth, cell_before, neighbour, around, push_if, pushed}
use Rattle.cells.specs.Ground.{Sized, is_inner, ring_at, ring, Below}
use Rattle.cells.proofs.Words.{and_left, and_right, pick_le, count_same, count_turn, count_le}

-- the size test gives the limits
pub size_limits : (R C : ℕ) → size_ok R C ≡ true → Sized R C
unfolding size_ok
size_limits R C e =
    let a = and_right (leb 1 R) _ e in
    let b = and_right (leb R 64) _ a in
    let d = and_right (leb 1 C) _ b in
    record {
      row = leb-true 1 R (and_left (leb 1 R) _ e);
      rows64 = leb-true R 64 (and_left (leb R 64) _ a);
      column = leb-true 1 C (and_left (leb 1 C) _ b);
      columns64 = leb-true C 64 (and_left (leb C 64) _ d);
      cells = leb-true (R * C) 2048 (and_right (leb C 64) _ d);
    }

-- a row and a column on the board make a cell of it
pub cell_lt : (R C r c : ℕ) → r < R → c < C → cell_of C r c < R * C
cell_lt R C r c hr hc = digits_lt hr hc

pub ninth_le : (k : ℕ) → ninth k ≤ k + 1
unfolding ninth
ninth_le k = pick_le (leb 4 k) (k + 1) k (k + 1) (λ e. omega arith) (λ e. omega arith)

-- a neighbour is a cell, or the number of cells
pub cell_before_le : (R C r c : ℕ) → cell_before R C r c ≤ R * C
unfolding cell_before
cell_before_le R C r c =
    pick_le (leb 1 r && (leb r R && (leb 1 c && leb c C))) (cell_of C (r - 1) (c - 1)) (R * C) (R * C)
    (λ e.
    let a = and_right (leb 1 r) _ e in
    let b = and_right (leb r R) _ a in
    let r1 = leb-true 1 r (and_left (leb 1 r) _ e) in
    let r_r = leb-true r R (and_left (leb r R) _ a) in
    let c1 = leb-true 1 c (and_left (leb 1 c) _ b) in
    let c_c = leb-true c C (and_right (leb 1 c) _ b) in
    omega (arith, cell_lt R C (r - 1) (c - 1) (omega arith) (omega arith)))
    (λ e. omega arith)

-- a cell's neighbour, from its row and column
pub neighbour_at : (R C row column k : ℕ) → column < C → cell_before R C (row + ninth k / 3) (column + ninth k % 3) ≡ neighbour R C (cell_of C row column) k
unfolding neighbour
neighbour_at R C row column k h =
    ap₂ (λ (r c : ℕ). cell_before R C (r + ninth k / 3) (c + ninth k % 3)) (sym (digits_div row h)) (sym (digits_mod row h))

-- a cell's row and column are on the board
pub on_grid : (R C i : ℕ) → 1 ≤ C → i < R * C → (i / C < R) × (i % C < C)
on_grid R C i h l = ((div-lt_iff_lt-mul {k = C} {x = i} {y = R} h).1 l, mod-lt i h)

-- a cell is that of its row and column
pub cell_back : (C i : ℕ) → cell_of C (i / C) (i % C) ≡ i
cell_back C i = div-add-mod' i C

-- tests that agree on the cells of the board count the same around a cell, where neither holds off it
pub around_same : (R C : ℕ) (p q : ℕ → Bool) (i : ℕ) → ((j : ℕ) → p j ≡ q j) → around R C p i ≡ around R C q i
unfolding around
around_same R C p q i h = count_same (λ k. p (neighbour R C i k)) (λ k. q (neighbour R C i k)) 8 (λ k l. h (neighbour R C i k))

pub around_le : (R C : ℕ) (p : ℕ → Bool) (i : ℕ) → around R C p i ≤ 8
unfolding around
around_le R C p i = count_le (λ k. p (neighbour R C i k)) 8

-- what is pushed passed the test
pub pushed_below : (R C m : ℕ) (p : ℕ → Bool) (i n : ℕ) (st : List ℕ) → ((q : ℕ) → p q ≡ true → q < m) → Below m st → Below m (pushed R C p i n st)
unfolding pushed
pushed_below R C m p i zero st h b = b
pushed_below R C m p i (suc n) st h b = go (p (neighbour R C i n)) refl (pushed_below R C m p i n st h b)
  where
    go : (t : Bool) → p (neighbour R C i n) ≡ t → Below m (pushed R C p i n st) → Below m (push_if t (neighbour R C i n) (pushed R C p i n st))
    go true e rec = (h (neighbour R C i n) e, rec)
    go false e rec = rec

-- as many are pushed as pass the test
pub pushed_length : (R C : ℕ) (p : ℕ → Bool) (i n : ℕ) (st : List ℕ) → length (pushed R C p i n st) ≡ count (λ k. p (neighbour R C i k)) n + length st
unfolding pushed count
pushed_length R C p i zero st = omega arith
pushed_length R C p i (suc n) st = go (p (neighbour R C i n)) (pushed_length R C p i n st)
  where
    go : (t : Bool) → length (pushed R C p i n st) ≡ count (λ k. p (neighbour R C i k)) n + length st
        → length (push_if t (neighbour R C i n) (pushed R C p i n st)) ≡ count (λ k. p (neighbour R C i k)) n + bit t + length st
    go true e = omega arith
    go false e = omega arith

-- one cell for each place, at most
pub pushed_height : (R C : ℕ) (p : ℕ → Bool) (i n : ℕ) (st : List ℕ) → length (pushed R C p i n st) ≤ n + length st
pushed_height R C p i n st = let l = pushed_length R C p i n st in let m = count_le (λ k. p (neighbour R C i k)) n in omega arith

-- tests that agree push the same
pub pushed_same : (R C : ℕ) (p q : ℕ → Bool) (i n : ℕ) (st : List ℕ) → ((j : ℕ) → p j ≡ q j) → pushed R C p i n st ≡ pushed R C q i n st
unfolding pushed
pushed_same R C p q i zero st h = refl
pushed_same R C p q i (suc n) st h =
    ap₂ (λ (t : Bool) (l : List ℕ). push_if t (neighbour R C i n) l) (h (neighbour R C i n)) (pushed_same R C p q i n st h)

-- a loop over the eight places, one turn on
pub around_turn : (R C row column : ℕ) (p : ℕ → Bool) (k q n m : ℕ) → column < C → q ≡ cell_before R C (row + ninth k / 3) (column + ninth k % 3)
    → n ≡ count (λ j. p (neighbour R C (cell_of C row column) j)) k → m ≡ n + bit (p q)
    → m ≡ count (λ j. p (neighbour R C (cell_of C row column) j)) (k + 1)
around_turn R C row column p k q n m h e d f =
    f
    ∙ count_turn (λ j. p (neighbour R C (cell_of C row column) j)) k n (bit (p q)) d (ap (λ (x : ℕ). bit (p x)) (e ∙ neighbour_at R C row column k h))

-- and at its end
pub around_done : (R C i : ℕ) (p : ℕ → Bool) (k n : ℕ) → k ≡ 8 → n ≡ count (λ j. p (neighbour R C i j)) k → n ≡ around R C p i
unfolding around
around_done R C i p k n e d = d ∙ ap (count (λ j. p (neighbour R C i j))) e

-- ---- the way back --------------------------------------------------------------------------------------------------------------------------

pub cell_before_is : (R C r c : ℕ) → 1 ≤ r → r ≤ R → 1 ≤ c → c ≤ C → cell_before R C r c ≡ cell_of C (r - 1) (c - 1)
unfolding cell_before
cell_before_is R C r c r1 r_r c1 c_c = simp (le-leb 1 r r1, le-leb r R r_r, le-leb 1 c c1, le-leb c C c_c)

-- a neighbour that is a cell, by its row and column
pub record Before (R C r c : ℕ) : Type 0 where
  pub r1 : 1 ≤ r
  pub r_r : r ≤ R
  pub c1 : 1 ≤ c
  pub c_c : c ≤ C

pub cell_before_on : (R C r c : ℕ) → cell_before R C r c < R * C → Before R C r c
unfolding cell_before
cell_before_on R C r c h = go (leb 1 r && (leb r R && (leb 1 c && leb c C))) refl h
  where
    go : (t : Bool) → (leb 1 r && (leb r R && (leb 1 c && leb c C))) ≡ t → pick t (cell_of C (r - 1) (c - 1)) (R * C) < R * C → Before R C r c
    go true e l =
        let a = and_right (leb 1 r) _ e in
        let b = and_right (leb r R) _ a in
        record {
          r1 = leb-true 1 r (and_left (leb 1 r) _ e);
          r_r = leb-true r R (and_left (leb r R) _ a);
          c1 = leb-true 1 c (and_left (leb 1 c) _ b);
          c_c = leb-true c C (and_right (leb 1 c) _ b);
        }
    go false e l = absurd (omega arith)

ninth_back : (k : ℕ) → k < 8 → ninth (7 - k) ≡ 8 - ninth k
unfolding ninth
ninth_back k h = go (leb 4 k) refl
  where
    go : (t : Bool) → leb 4 k ≡ t → pick (leb 4 (7 - k)) (7 - k + 1) (7 - k) ≡ 8 - pick t (k + 1) k
    go true e = let f = leb-true 4 k e in rw (lt-leb 4 (7 - k) (omega arith)) (omega arith)
    go false e = let f = leb-false 4 k e in rw (le-leb 4 (7 - k) (omega arith)) (omega arith)

-- place 7 - k leads back
pub neighbour_back : (R C i k : ℕ) → i < R * C → k < 8 → neighbour R C i k < R * C → neighbour R C (neighbour R C i k) (7 - k) ≡ i
unfolding neighbour
neighbour_back R C i k on lt h =
    let j = ninth k in
    let nine = ninth_le k in
    let b = cell_before_on R C (i / C + j / 3) (i % C + j % 3) h in
    let r1 = b.r1 in
    let r_r = b.r_r in
    let c1 = b.c1 in
    let c_c = b.c_c in
    let g = on_grid R C i (omega arith) on in
    let e = cell_before_is R C (i / C + j / 3) (i % C + j % 3) r1 r_r c1 c_c in
    let lc : i % C + j % 3 - 1 < C = omega arith in
    let d : neighbour R C i k / C ≡ i / C + j / 3 - 1 = ap (λ (x : ℕ). x / C) e ∙ digits_div (i / C + j / 3 - 1) lc in
    let m : neighbour R C i k % C ≡ i % C + j % 3 - 1 = ap (λ (x : ℕ). x % C) e ∙ digits_mod (i / C + j / 3 - 1) lc in
    let n = ninth_back k lt in
    let row : neighbour R C i k / C + ninth (7 - k) / 3 ≡ i / C + 1 = rw (d, n) (omega arith) in
    let column : neighbour R C i k % C + ninth (7 - k) % 3 ≡ i % C + 1 = rw (m, n) (omega arith) in
    let back = cell_before_is R C (i / C + 1) (i % C + 1) (omega arith) (let l = g.0 in omega arith) (omega arith) (let l = g.1 in omega arith) in
    let same : cell_of C (i / C + 1 - 1) (i % C + 1 - 1) ≡ cell_of C (i / C) (i % C) = ap₂ (cell_of C) (let z : i / C + 1 - 1 ≡ i / C = omega arith in z) (let z : i % C + 1 - 1 ≡ i % C = omega arith in z) in
    ap₂ (cell_before R C) row column ∙ back ∙ same ∙ cell_back C i

-- ---- a cell with all its eight neighbours ------------------------------------------------------------------------------------------------

-- the eight neighbours lie at fixed distances from the first of the nine cells
pub record Inner (R C row column : ℕ) : Type 0 where
  pub above : 1 ≤ row
  pub below : row + 1 < R
  pub before : 1 ≤ column
  pub after : column + 1 < C

pub inner_test : (R C row column : ℕ) → is_inner R C row column ≡ true → Inner R C row column
inner_test R C row column e =
    let a = and_right (leb 1 row) _ e in
    let b = and_right (ltb (row + 1) R) _ a in
    record {
      above = leb-true 1 row (and_left (leb 1 row) _ e);
      below = ltb-true (row + 1) R (and_left (ltb (row + 1) R) _ a);
      before = leb-true 1 column (and_left (leb 1 column) _ b);
      after = ltb-true (column + 1) C (and_right (leb 1 column) _ b);
    }

-- the first of the nine cells around a cell
abbrev pub first_of : ℕ → ℕ → ℕ → ℕ
first_of C row column = (row - 1) * C + (column - 1)

-- nine places in threes: the third row is two rows lower
pub third_le : (C j : ℕ) → j < 9 → j / 3 * C ≤ 2 * C
third_le C j h = let d : j / 3 ≤ 2 = omega arith in mul-le-mul_right C d

-- the places of a ring end with the last of the nine
pub ring_le : (C q k : ℕ) → k < 8 → ring_at C q k ≤ q + 2 * C + 2
ring_le C q k h = let n = ninth_le k in let m = third_le C (ninth k) (omega arith) in omega arith

-- a loop over a ring, one turn on
pub ring_turn : (C first : ℕ) (p : ℕ → Bool) (k q n one : ℕ) → q ≡ ring_at C first k → n ≡ count (λ j. p (ring_at C first j)) k → one ≡ bit (p q)
    → n + one ≡ count (λ j. p (ring_at C first j)) (k + 1)
ring_turn C first p k q n one e d f = count_turn (λ j. p (ring_at C first j)) k n one d (f ∙ ap (λ (x : ℕ). bit (p x)) e)

-- and at its end
pub ring_done : (C first : ℕ) (p : ℕ → Bool) (k n : ℕ) → k ≡ 8 → n ≡ count (λ j. p (ring_at C first j)) k → n ≡ ring C p first
ring_done C first p k n e d = d ∙ ap (count (λ j. p (ring_at C first j))) e

module _ (R C row column : ℕ) (i : Inner R C row column) where
  -- THE LAW of an inner cell
  pub inner_neighbour : (k : ℕ) → k < 8 → neighbour R C (cell_of C row column) k ≡ ring_at C (first_of C row column) k
  unfolding cell_before
  inner_neighbour k h =
      let a = ninth_le k in
      let above = i.above in
      let below = i.below in
      let before = i.before in
      let after = i.after in
      let e : row + ninth k / 3 - 1 ≡ row - 1 + ninth k / 3 = omega arith in
      let d : cell_of C (row + ninth k / 3 - 1) (column + ninth k % 3 - 1) ≡ ring_at C (first_of C row column) k =
      let m = add-mul (row - 1) (ninth k / 3) C in
      let n : (row + ninth k / 3 - 1) * C ≡ (row - 1) * C + ninth k / 3 * C = ap (λ (x : ℕ). x * C) e ∙ m in
      omega arith in
      let r1 : leb 1 (row + ninth k / 3) ≡ true = le-leb 1 (row + ninth k / 3) (omega arith) in
      let r_r : leb (row + ninth k / 3) R ≡ true = le-leb (row + ninth k / 3) R (omega arith) in
      let c1 : leb 1 (column + ninth k % 3) ≡ true = le-leb 1 (column + ninth k % 3) (omega arith) in
      let c_c : leb (column + ninth k % 3) C ≡ true = le-leb (column + ninth k % 3) C (omega arith) in
      sym (neighbour_at R C row column k (omega arith)) ∙ rw (r1, r_r, c1, c_c) d

  -- a count around it
  pub inner_around : (p : ℕ → Bool) → around R C p (cell_of C row column) ≡ ring C p (first_of C row column)
  unfolding around
  inner_around p =
      count_same (λ k. p (neighbour R C (cell_of C row column) k)) (λ k. p (ring_at C (first_of C row column) k)) 8 (λ k h. ap p (inner_neighbour k h))

  -- the last of the nine is on the board
  pub inner_last : first_of C row column + 2 * C + 2 < R * C
  inner_last =
      let above = i.above in
      let below = i.below in
      let before = i.before in
      let after = i.after in
      let m : (row - 1 + 2) * C ≡ (row - 1) * C + 2 * C = add-mul (row - 1) 2 C in
      let l = cell_lt R C (row - 1 + 2) (column - 1 + 2) (omega arith) (omega arith) in
      omega arith
