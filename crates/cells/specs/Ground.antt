-- What the inner functions require of their boards and their work, and what the leaves ensure: facts that the tests of the entry points give.
use Rattle.std.specs.Prelude.{◌≡◌, Bool, true, ◌&&◌, List, [], ◌∷◌, ℕ, ◌+◌, ◌*◌, ◌/◌, ◌%◌, ◌<◌, ◌≤◌, leb, ltb, eqb, length, get_or, ℤ, pos}
use Rattle.rules.specs.Words.{bit, count}
use Rattle.rules.specs.Grid.{ninth, around}
use Rattle.rules.specs.Board.{face_at, value_ok}
use Rattle.rules.specs.Lent.{work_room}
use Rattle.rules.specs.Opening.{closed_at}
use Rattle.rules.specs.Clicks.{flag_at}
use Rattle.cells.specs.declared.Around.{Around}

-- a size within the limits
pub record Sized (R C : ℕ) : Type 0 where
  pub row : 1 ≤ R
  pub rows64 : R ≤ 64
  pub column : 1 ≤ C
  pub columns64 : C ≤ 64
  pub cells : R * C ≤ 2048

-- every value of a mine board is -1 to 8
abbrev pub Valued : List ℤ → Type 0
Valued B = (i : ℕ) → i < length B → value_ok (get_or B i (pos 0)) ≡ true

-- a mine board of its size
pub record Mined (B : List ℤ) (R C : ℕ) : Type 0 where
  pub sized : Sized R C
  pub long : length B ≡ R * C
  pub valued : Valued B

-- the buffers fit the board
pub record Fitting (B : List ℤ) (shown work : List ℕ) (R C : ℕ) : Type 0 where
  pub mined : Mined B R C
  pub board : length shown ≡ R * C
  pub room : work_room (R * C) ≤ length work

-- the first n entries are 0
abbrev pub Zeros : ℕ → List ℕ → Type 0
Zeros n w = (i : ℕ) → i < n → get_or w i 0 ≡ 0

-- each cell of a stack is on the board
abbrev pub Below : ℕ → List ℕ → Type 0
Below n [] = Unit {0}
Below n (x ∷ st) = (x < n) × Below n st

-- the cell has all its eight neighbours
abbrev pub is_inner : ℕ → ℕ → ℕ → ℕ → Bool
is_inner R C row column = leb 1 row && (ltb (row + 1) R && (leb 1 column && ltb (column + 1) C))

-- the k-th of the eight cells around the middle of nine: the first of the nine is q, and a row lower is C further on
abbrev pub ring_at : ℕ → ℕ → ℕ → ℕ
ring_at C q k = q + ninth k / 3 * C + ninth k % 3

-- how many of these pass a test
abbrev pub ring : ℕ → (ℕ → Bool) → ℕ → ℕ
ring C p q = count (λ k. p (ring_at C q k)) 8

-- a cell of the board with a face; 15 for the mines, 0 for the 0 cells
abbrev pub face_is : List ℤ → ℕ → ℕ → Bool
face_is B f q = ltb q (length B) && eqb (face_at B q) f

-- one cell more was looked at
pub record Saw (shown : List ℕ) (q : ℕ) (past r : Around) : Type 0 where
  pub flag : r.flags ≡ past.flags + bit (flag_at shown q)
  pub close : r.closed ≡ past.closed + bit (closed_at shown q)

-- the flags and the closed cells around a cell
pub record SeenAround (shown : List ℕ) (R C i : ℕ) (r : Around) : Type 0 where
  pub flag : r.flags ≡ around R C (flag_at shown) i
  pub close : r.closed ≡ around R C (closed_at shown) i
