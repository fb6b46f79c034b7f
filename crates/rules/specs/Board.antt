-- The mine board: its values and numbers, the refusals 20 to 24 and which cell is wrong, and numbering from a mine list.
use Rattle.std.specs.Prelude.{Bool, true, not, ◌&&◌, ◌||◌, List, ℕ, zero, suc, ◌+◌, ◌*◌, ◌/◌, ◌%◌, ltb, leb, eqb, length, get_or, ℤ, pos, negsuc}
use Rattle.rules.specs.declared.Place.{Place}
use Rattle.rules.specs.declared.Place.TheVariants.{Nowhere, At}
use Rattle.rules.specs.Words.{pick, unless, count, every, first_not, in_order}
use Rattle.rules.specs.Grid.{size_ok, cell_of, around}

-- what a cell shows once it is open: its number, or 15 for a mine
abbrev pub face : ℤ → ℕ
face (pos n) = n
face (negsuc n) = 15

abbrev pub face_at : List ℤ → ℕ → ℕ
face_at B i = face (get_or B i (pos 0))

abbrev pub mine_at : List ℤ → ℕ → Bool
mine_at B i = eqb (face_at B i) 15

-- a 0 cell of the board
unfoldable pub zero_at : List ℤ → ℕ → Bool
zero_at B i = ltb i (length B) && eqb (face_at B i) 0

-- a number without a 0 neighbour
unfoldable pub lone_at : List ℤ → ℕ → ℕ → ℕ → Bool
lone_at B R C i = leb 1 (face_at B i) && (leb (face_at B i) 8 && eqb (around R C (zero_at B) i) 0)

-- 22: a value is -1 to 8
abbrev pub value_ok : ℤ → Bool
value_ok (pos n) = leb n 8
value_ok (negsuc n) = eqb n 0

abbrev pub value_ok_at : List ℤ → ℕ → Bool
value_ok_at B i = value_ok (get_or B i (pos 0))

unfoldable pub values_ok : List ℤ → Bool
values_ok B = every (value_ok_at B) (length B)

-- 23: a safe cell's number is its count of mine neighbours
unfoldable pub number_ok : List ℤ → ℕ → ℕ → ℕ → Bool
number_ok B R C i = mine_at B i || eqb (face_at B i) (around R C (mine_at B) i)

unfoldable pub numbers_ok : List ℤ → ℕ → ℕ → Bool
numbers_ok B R C = every (number_ok B R C) (length B)

-- 24: some cell is safe
unfoldable pub some_safe : List ℤ → Bool
some_safe B = not (every (mine_at B) (length B))

-- how many cells are safe
unfoldable pub safe_in : List ℤ → ℕ
safe_in B = count (λ i. not (mine_at B i)) (length B)

-- the refusals 20 to 24 in their order, where `fit` says that every buffer has the right length
unfoldable pub board_refusal : ℕ → ℕ → Bool → List ℤ → ℕ
board_refusal R C fit B =
    unless 20 (size_ok R C)
    (unless 21 fit
    (unless 22 (values_ok B)
    (unless 23 (numbers_ok B R C)
    (unless 24 (some_safe B) 0))))

-- the board check: 20 to 24, without shown board or bits
unfoldable pub board_check : ℕ → ℕ → List ℤ → ℕ
board_check R C B = board_refusal R C (eqb (length B) (R * C)) B

-- ---- which cell is wrong ---------------------------------------------------------------------------------------------------------------

-- the row and the column of a cell
abbrev pub place_of : ℕ → ℕ → Place
place_of C i = At (i / C) (i % C)

-- a place as two bytes; 255 255 is nowhere
abbrev pub row_byte : Place → ℕ
row_byte Nowhere = 255
row_byte (At row column) = row

abbrev pub column_byte : Place → ℕ
column_byte Nowhere = 255
column_byte (At row column) = column

-- 22 and 23 carry the first faulty cell in row order, all other numbers none
unfoldable pub fault_of : ℕ → ℕ → List ℤ → ℕ → Place
fault_of R C B n =
    pick (eqb n 22) (place_of C (first_not (value_ok_at B) (length B)))
    (pick (eqb n 23) (place_of C (first_not (number_ok B R C) (length B)))
    Nowhere)

-- ---- numbering from a mine list: a row byte and a column byte for each mine, strictly rising in row order ----------------------------

-- how many mines a list has
abbrev pub mines_in : List ℕ → ℕ
mines_in ms = length ms / 2

-- the n-th mine: its row, its column, its cell
abbrev pub mine_row : List ℕ → ℕ → ℕ
mine_row ms n = get_or ms (2 * n) 0

abbrev pub mine_column : List ℕ → ℕ → ℕ
mine_column ms n = get_or ms (2 * n + 1) 0

abbrev pub mine_cell : ℕ → List ℕ → ℕ → ℕ
mine_cell C ms n = cell_of C (mine_row ms n) (mine_column ms n)

-- the n-th mine is after the one before it
abbrev pub rises : ℕ → List ℕ → ℕ → Bool
rises C ms zero = true
rises C ms (suc n) = ltb (mine_cell C ms n) (mine_cell C ms (suc n))

-- 42: the mine is on the board and rises
unfoldable pub mine_ok : ℕ → ℕ → List ℕ → ℕ → Bool
mine_ok R C ms n = ltb (mine_row ms n) R && (ltb (mine_column ms n) C && rises C ms n)

-- the cell is in the list
unfoldable pub listed_mine : ℕ → List ℕ → ℕ → Bool
listed_mine C ms i = not (every (λ n. not (eqb (mine_cell C ms n) i)) (mines_in ms))

-- -1 for a mine, else the count of mine neighbours
unfoldable pub numbered_at : ℕ → ℕ → List ℕ → ℕ → ℤ
numbered_at R C ms i = pick (listed_mine C ms i) (negsuc 0) (pos (around R C (listed_mine C ms) i))

unfoldable pub numbered : ℕ → ℕ → List ℕ → List ℤ
numbered R C ms = in_order (numbered_at R C ms) (R * C)

-- the refusals of numbering onto a lent board: 20, 21 (an odd length too), 42, 24
unfoldable pub numbering_refusal : ℕ → ℕ → List ℕ → List ℤ → ℕ
numbering_refusal R C ms B =
    unless 20 (size_ok R C)
    (unless 21 (eqb (length B) (R * C) && eqb (length ms % 2) 0)
    (unless 42 (every (mine_ok R C ms) (mines_in ms))
    (unless 24 (ltb (mines_in ms) (R * C)) 0)))
