-- The opening as a set of cells and what names it, the walk as the Rust has it, and the cells of a stack that pass a test.
use Rattle.std.specs.Prelude.{◌≡◌, Bool, true, false, not, List, [], ◌∷◌, ◌⊎◌, ℕ, ◌+◌, ◌*◌, ◌<◌, eqb, get_or, set, ℤ}
use Rattle.rules.specs.Words.{bit}
use Rattle.rules.specs.Grid.{neighbour, pushed}
use Rattle.rules.specs.Board.{face_at, mine_at}
use Rattle.rules.specs.Judging.{free_at, Walked}

-- how many cells of a stack pass a test, each counted as often as it stands there
unfoldable pub among : (ℕ → Bool) → List ℕ → ℕ
among p [] = 0
among p (i ∷ st) = among p st + bit (p i)

abbrev pub safe_at : List ℤ → ℕ → Bool
safe_at B i = not (mine_at B i)

-- the 0 cells of the board that are joined to the start over eight neighbours
pub data Joined (B : List ℤ) (R C start : ℕ) : ℕ → Type 0 where
  here : Joined B R C start start
  next : (i k : ℕ) → Joined B R C start i → k < 8 → neighbour R C i k < R * C → face_at B (neighbour R C i k) ≡ 0 → Joined B R C start (neighbour R C i k)

-- the cell stands in the stack
abbrev pub In : ℕ → List ℕ → Type 0
In q [] = ⊥
In q (x ∷ l) = (q ≡ x) ⊎ In q l

-- a 0 cell of the board
pub record Nought (B : List ℤ) (R C i : ℕ) : Type 0 where
  pub on : i < R * C
  pub face : face_at B i ≡ 0

-- no two are of one opening
abbrev pub Apart : List ℤ → ℕ → ℕ → List ℕ → Type 0
Apart B R C [] = Unit {0}
Apart B R C (x ∷ l) = ((y : ℕ) → In y l → Joined B R C x y → ⊥) × Apart B R C l

-- a 0 that P holds of, joined to x
pub record From (B : List ℤ) (R C : ℕ) (P : ℕ → Type 0) (x : ℕ) : Type 0 where
  pub cell : ℕ
  pub holds : P cell
  pub nought : Nought B R C cell
  pub joined : Joined B R C cell x

-- names of the openings with a 0 that P holds of: one cell of each, and of no other
pub record Names (B : List ℤ) (R C : ℕ) (P : ℕ → Type 0) (names : List ℕ) : Type 0 where
  pub each : (x : ℕ) → In x names → From B R C P x
  pub all : (i : ℕ) → P i → Nought B R C i → From B R C (λ x. In x names) i
  pub apart : Apart B R C names

-- a 0 cell joined to the start shows 11
pub record Flagged (B : List ℤ) (R C : ℕ) (shown : List ℕ) (start : ℕ) : Type 0 where
  pub cell : ℕ
  pub joined : Joined B R C start cell
  pub shows : get_or shown cell 0 ≡ 11

-- the Rust's loop, from a stack and marks, ends so; it does not skip a 0 that has a mark
pub data Rust (B : List ℤ) (R C : ℕ) (shown : List ℕ) : List ℕ → List ℕ → Walked → Type 0 where
  empty : (marks : List ℕ) → Rust B R C shown [] marks (record { marks = marks; whole = true })
  number : (i : ℕ) (st marks : List ℕ) (o : Walked) → (face_at B i ≡ 0 → ⊥) → Rust B R C shown st marks o → Rust B R C shown (i ∷ st) marks o
  flag : (i : ℕ) (st marks : List ℕ) → face_at B i ≡ 0 → eqb (get_or shown i 0) 11 ≡ true → Rust B R C shown (i ∷ st) marks (record { marks = marks; whole = false })
  nought : (i : ℕ) (st marks : List ℕ) (o : Walked) → face_at B i ≡ 0 → eqb (get_or shown i 0) 11 ≡ false
      → Rust B R C shown (pushed R C (free_at (set marks i 1)) i 8 st) (set marks i 1) o → Rust B R C shown (i ∷ st) marks o
