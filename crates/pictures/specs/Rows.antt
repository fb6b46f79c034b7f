-- The refusals of the two calls as tables: numbers in their order, each with the test that it is given for failing.
use Rattle.std.specs.Prelude.{Bool, true, false, ◌&&◌, List, [], ◌∷◌, ℕ, zero, suc, ◌*◌, eqb, length}
use Rattle.rules.specs.Grid.{size_ok}
use Rattle.rules.specs.Picture.{is_shown, all_shown, skipped, Token, value_of, rest_of, is_marked, width_of, height_of, maximum_of, rows_of, columns_of, next_cell, byte_room, cell_room}
use Rattle.rules.specs.Picture.Token.{end, none, number}
use Rattle.refusals.specs.Rows.{Row, row}

-- the writer: 20, 21, 261
abbrev pub write_rows : ℕ → ℕ → List ℕ → List ℕ → List Row
write_rows R C shown out =
    row 20 (size_ok R C) ∷ row 21 (eqb (length shown) (R * C) && eqb (length out) byte_room) ∷ row 261 (all_shown shown) ∷ []

-- the bytes do not end where a number is due; what is there is a number
abbrev pub is_there : Token → Bool
is_there end = false
is_there none = true
is_there (number v s) = true

abbrev pub is_number : Token → Bool
is_number end = false
is_number none = false
is_number (number v s) = true

-- the cells, and what follows the last one
unfoldable pub cell_rows : ℕ → List ℕ → List Row
cell_rows zero s = row 64 (eqb (length (skipped false false s)) 0) ∷ []
cell_rows (suc n) s =
    row 64 (is_there (next_cell s)) ∷ row 63 (is_number (next_cell s)) ∷ row 63 (is_shown (value_of (next_cell s))) ∷ cell_rows n (rest_of (next_cell s))

-- the reader: its room, the mark, the width, the height, the size, the maximum, the cells
abbrev pub read_rows : List ℕ → List ℕ → List Row
read_rows s room =
    row 21 (eqb (length room) cell_room) ∷ row 60 (is_marked s)
    ∷ row 64 (is_there (width_of s)) ∷ row 61 (is_number (width_of s))
    ∷ row 64 (is_there (height_of s)) ∷ row 61 (is_number (height_of s))
    ∷ row 61 (size_ok (rows_of s) (columns_of s))
    ∷ row 64 (is_there (maximum_of s)) ∷ row 62 (is_number (maximum_of s)) ∷ row 62 (eqb (value_of (maximum_of s)) 17)
    ∷ cell_rows (rows_of s * columns_of s) (rest_of (maximum_of s))
