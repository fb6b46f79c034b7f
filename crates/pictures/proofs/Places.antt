-- No number but in its place of the order: what each call answers is the first row of its table that applies, and no other number is.
use mathlib.Core.Path.{◌≡◌, refl, ap}
use mathlib.Core.List.{List}
use Prim.Native.Nat.{ℕ, zero, suc, ◌*◌}
use lib.Dec.{eqb}
use lib.ListN.{length}
use Rattle.rules.specs.Words.{unless}
use Rattle.rules.specs.Grid.{size_ok}
use Rattle.rules.specs.Picture.{is_shown, Token, due, value_of, rest_of, is_marked, width_of, height_of, maximum_of, rows_of, columns_of, next_cell, shown_refusal, size_refusal, maximum_refusal, cells_refusal, picture_refusal, byte_room, cell_room, read_refusal}
use Rattle.rules.specs.Picture.Token.{end, none, number}
use Rattle.refusals.specs.Rows.{first}
use Rattle.pictures.specs.Rows.{write_rows, is_there, is_number, cell_rows, read_rows}

-- where a number is due there are two rows
due_rows : (n : ℕ) (t : Token) {rest rest' : ℕ} → rest ≡ rest' → due n t rest ≡ unless 64 (is_there t) (unless n (is_number t) rest')
due_rows n end e = refl
due_rows n none e = refl
due_rows n (number v s) e = e

cell_rows_lem : (n : ℕ) (s : List ℕ) → cells_refusal n s ≡ first (cell_rows n s)
unfolding cells_refusal cell_rows first
cell_rows_lem zero s = refl
cell_rows_lem (suc n) s =
    let rec = cell_rows_lem n (rest_of (next_cell s)) in
    due_rows 63 (next_cell s) (ap (unless 63 (is_shown (value_of (next_cell s)))) rec)

pub write_rows_lem : (R C : ℕ) (shown out : List ℕ) → shown_refusal R C shown (eqb (length out) byte_room) ≡ first (write_rows R C shown out)
unfolding shown_refusal first
write_rows_lem R C shown out = refl

pub read_rows_lem : (s room : List ℕ) → read_refusal s room ≡ first (read_rows s room)
unfolding read_refusal picture_refusal size_refusal maximum_refusal first
read_rows_lem s room =
    ap (λ (k : ℕ). unless 21 (eqb (length room) cell_room) (unless 60 (is_marked s) k))
    (due_rows 61 (width_of s)
    (due_rows 61 (height_of s)
    (ap (unless 61 (size_ok (rows_of s) (columns_of s)))
    (due_rows 62 (maximum_of s)
    (ap (unless 62 (eqb (value_of (maximum_of s)) 17)) (cell_rows_lem (rows_of s * columns_of s) (rest_of (maximum_of s))))))))
