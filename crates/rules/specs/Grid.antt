-- Sizes, cells and which of them pass a test, and the neighbours of a cell, in row order.
use Rattle.std.specs.Prelude.{Bool, true, false, ◌&&◌, List, [], ◌∷◌, ℕ, zero, suc, ◌+◌, ◌-◌, ◌*◌, ◌/◌, ◌%◌, leb}
use Rattle.rules.specs.Words.{pick, count}

-- rows and columns 1 to 64, rows × columns at most 2,048
unfoldable pub size_ok : ℕ → ℕ → Bool
size_ok R C = leb 1 R && (leb R 64 && (leb 1 C && (leb C 64 && leb (R * C) 2048)))

-- a cell's number: row × columns + column
abbrev pub cell_of : ℕ → ℕ → ℕ → ℕ
cell_of C row column = row * C + column

-- the eight places around a cell are those of nine, in row order, but for place 4, the cell itself
unfoldable pub ninth : ℕ → ℕ
ninth k = pick (leb 4 k) (k + 1) k

-- the cell one row above and one column before (r, c); rows × columns, which is no cell, where that is off the board
unfoldable pub cell_before : ℕ → ℕ → ℕ → ℕ → ℕ
cell_before R C r c = pick (leb 1 r && (leb r R && (leb 1 c && leb c C))) (cell_of C (r - 1) (c - 1)) (R * C)

-- the k-th neighbour of a cell in row order, k from 0 to 7
unfoldable pub neighbour : ℕ → ℕ → ℕ → ℕ → ℕ
neighbour R C i k = cell_before R C (i / C + ninth k / 3) (i % C + ninth k % 3)

-- how many neighbours of a cell pass a test that no cell off the board passes
unfoldable pub around : ℕ → ℕ → (ℕ → Bool) → ℕ → ℕ
around R C p i = count (λ k. p (neighbour R C i k)) 8

abbrev pub push_if : Bool → ℕ → List ℕ → List ℕ
push_if true q st = q ∷ st
push_if false q st = st

-- those of the first n cells that pass a test, as a stack, the last of them on top
unfoldable pub cells_if : (ℕ → Bool) → ℕ → List ℕ
cells_if p zero = []
cells_if p (suc n) = push_if (p n) n (cells_if p n)

-- those of the first n neighbours that pass the test go on a stack, in row order
unfoldable pub pushed : ℕ → ℕ → (ℕ → Bool) → ℕ → ℕ → List ℕ → List ℕ
pushed R C p i zero st = st
pushed R C p i (suc n) st = push_if (p (neighbour R C i n)) (neighbour R C i n) (pushed R C p i n st)
