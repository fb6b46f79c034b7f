-- The picture for the club newsletter, plain PGM (Netpbm, `P2`): the one plain form of a shown board, and the reading of any bytes, over the
-- bytes still to come. The first fault from the front answers.
use Rattle.std.specs.Prelude.{◌≡◌, Bool, true, false, not, ◌&&◌, ◌||◌, List, [], ◌∷◌, ◌++◌, ℕ, zero, suc, ◌+◌, ◌-◌, ◌*◌, leb, eqb, length, get_or, drop}
use Rattle.rules.specs.declared.Book.{Book}
use Rattle.rules.specs.declared.Picture.{Picture}
use Rattle.rules.specs.declared.Value.{Value}
use Rattle.rules.specs.declared.Place.TheVariants.{Nowhere}
use Rattle.rules.specs.Words.{pick, unless, every, over}
use Rattle.rules.specs.Grid.{size_ok}
use Rattle.rules.specs.Book.{book_of}
use Rattle.rules.specs.Printout.{decimal, word_line, word_refused, row_lines, book_end, printout_of}

-- ---- a shown board by itself -----------------------------------------------------------------------------------------------------------

-- shown values: 0 to 8 open, 10 closed, 11 flag, 14 wrong flag, 15 mine hit, 17 question
unfoldable pub is_shown : ℕ → Bool
is_shown v = leb v 8 || (eqb v 10 || (eqb v 11 || (eqb v 14 || (eqb v 15 || eqb v 17))))

unfoldable pub all_shown : List ℕ → Bool
all_shown shown = every (λ i. is_shown (get_or shown i 0)) (length shown)

-- 20, 21 and 261 (only a value never shown), or 0; `fit` says that whatever else is lent has its length
unfoldable pub shown_refusal : ℕ → ℕ → List ℕ → Bool → ℕ
shown_refusal R C shown fit =
    unless 20 (size_ok R C)
    (unless 21 (eqb (length shown) (R * C) && fit)
    (unless 261 (all_shown shown) 0))

-- ---- writing ---------------------------------------------------------------------------------------------------------------------------

-- one number per line
unfoldable pub number_lines : List ℕ → List ℕ
number_lines [] = []
number_lines (n ∷ ns) = decimal n ++ (10 ∷ number_lines ns)

-- THE ONE PLAIN FORM: `P2`, then columns as width, rows as height, 17 as maximum, the cells in row order
unfoldable pub plain_form : ℕ → ℕ → List ℕ → List ℕ
plain_form R C shown = (80 ∷ 50 ∷ 10 ∷ []) ++ number_lines (C ∷ R ∷ 17 ∷ shown)

-- the writer is lent 6,156 bytes: three for `P2`, for each number before the cells, and for each of 2,048 cells
abbrev pub byte_room : ℕ
byte_room = 6156

-- what the writer answers, with how many bytes it wrote as the value, and what stands in its room then
pub record Drawn : Type 0 where
  pub answer : Value
  pub out : List ℕ

abbrev pub drawn : ℕ → ℕ → List ℕ → Drawn
drawn n long out = record { answer = record { number = n; place = Nowhere; value = long }; out = out }

unfoldable pub draw_by : ℕ → List ℕ → List ℕ → Drawn
draw_by n text out = pick (eqb n 0) (drawn 0 (length text) (over text out)) (drawn n 0 out)

-- the writer tests 20, 21 (its room too) and 261; room not filled stays as it was
unfoldable pub draw_of : ℕ → ℕ → List ℕ → List ℕ → Drawn
draw_of R C shown out = draw_by (shown_refusal R C shown (eqb (length out) byte_room)) (plain_form R C shown) out

-- ---- white space and comments ----------------------------------------------------------------------------------------------------------

-- white space: space, tab, CR, LF
unfoldable pub is_space : ℕ → Bool
is_space b = eqb b 32 || (eqb b 9 || (eqb b 13 || eqb b 10))

-- white space or, where it counts, `#`
unfoldable pub is_gap : Bool → ℕ → Bool
is_gap hash b = is_space b || (hash && eqb b 35)

-- a comment runs on after this byte: from a `#` that counts to the line's end, LF or CR
unfoldable pub runs_on : Bool → Bool → ℕ → Bool
runs_on hash inside b = pick inside (not (eqb b 10 || eqb b 13)) (hash && eqb b 35)

-- the bytes after any run of white space and, where `#` counts, of comments; `inside` a comment every byte is passed
unfoldable pub skipped : Bool → Bool → List ℕ → List ℕ
skipped hash inside [] = []
skipped hash inside (b ∷ s) =
    let more = skipped hash (runs_on hash inside b) s in
    pick (inside || is_gap hash b) more (b ∷ s)

-- ---- numbers ---------------------------------------------------------------------------------------------------------------------------

-- what is found where a number is due: the bytes' end; no number; a number, and the bytes after it
pub data Token : Type 0 where
  end : Token
  none : Token
  number : ℕ → List ℕ → Token

abbrev pub value_of : Token → ℕ
value_of end = 0
value_of none = 0
value_of (number v s) = v

abbrev pub rest_of : Token → List ℕ
rest_of end = []
rest_of none = []
rest_of (number v s) = s

unfoldable pub is_digit : ℕ → Bool
is_digit b = leb 48 b && leb b 57

-- a number is ended by white space, the bytes' end or, where it counts, a `#`
abbrev pub ends : Bool → List ℕ → Bool
ends hash [] = true
ends hash (b ∷ s) = is_gap hash b

-- digits, ended so; v is what the digits before them make
unfoldable pub number_from : Bool → ℕ → List ℕ → Token
number_from hash v [] = number v []
number_from hash v (b ∷ s) =
    let more = number_from hash (v * 10 + (b - 48)) s in
    pick (is_digit b) more (pick (ends hash (b ∷ s)) (number v (b ∷ s)) none)

unfoldable pub token_at : Bool → List ℕ → Token
token_at hash [] = end
token_at hash (b ∷ s) = pick (is_digit b) (number_from hash 0 (b ∷ s)) none

-- does `#` begin a comment before the number, and does it end the number?
unfoldable pub token_of : Bool → Bool → List ℕ → Token
token_of before after s = token_at after (skipped before false s)

-- ---- the parts of a picture ------------------------------------------------------------------------------------------------------------

-- `P2`, ended as a number is
unfoldable pub is_marked : List ℕ → Bool
is_marked [] = false
is_marked (p ∷ []) = false
is_marked (p ∷ two ∷ s) = eqb p 80 && (eqb two 50 && ends true s)

abbrev pub width_of : List ℕ → Token
width_of s = token_of true true (drop 2 s)

abbrev pub height_of : List ℕ → Token
height_of s = token_of true true (rest_of (width_of s))

-- comments stand before the maximum, the last of them just before it
abbrev pub maximum_of : List ℕ → Token
maximum_of s = token_of true false (rest_of (height_of s))

abbrev pub rows_of : List ℕ → ℕ
rows_of s = value_of (height_of s)

abbrev pub columns_of : List ℕ → ℕ
columns_of s = value_of (width_of s)

abbrev pub next_cell : List ℕ → Token
next_cell s = token_of false false s

unfoldable pub cell_values : ℕ → List ℕ → List ℕ
cell_values zero s = []
cell_values (suc n) s = value_of (next_cell s) ∷ cell_values n (rest_of (next_cell s))

-- the cells, in row order
abbrev pub picture_cells : List ℕ → List ℕ
picture_cells s = cell_values (rows_of s * columns_of s) (rest_of (maximum_of s))

-- ---- the refusals, in their order ------------------------------------------------------------------------------------------------------

-- where a number is due: 64 the bytes end, n no number, else the rest
abbrev pub due : ℕ → Token → ℕ → ℕ
due n end rest = 64
due n none rest = n
due n (number v s) rest = rest

-- 60 not `P2` ended as a number is, or under two bytes; 61 width or height no number or, once both are read, a size outside ours
unfoldable pub size_refusal : List ℕ → ℕ → ℕ
size_refusal s rest =
    unless 60 (is_marked s)
    (due 61 (width_of s)
    (due 61 (height_of s)
    (unless 61 (size_ok (rows_of s) (columns_of s)) rest)))

-- 62 maximum no number or not 17
unfoldable pub maximum_refusal : List ℕ → ℕ → ℕ
maximum_refusal s rest = due 62 (maximum_of s) (unless 62 (eqb (value_of (maximum_of s)) 17) rest)

-- 63 a cell that is no number or a value never shown; 64 anything but white space follows the last cell
unfoldable pub cells_refusal : ℕ → List ℕ → ℕ
cells_refusal zero s = unless 64 (eqb (length (skipped false false s)) 0) 0
cells_refusal (suc n) s =
    let more = cells_refusal n (rest_of (next_cell s)) in
    due 63 (next_cell s) (unless 63 (is_shown (value_of (next_cell s))) more)

unfoldable pub picture_refusal : List ℕ → ℕ
picture_refusal s = size_refusal s (maximum_refusal s (cells_refusal (rows_of s * columns_of s) (rest_of (maximum_of s))))

-- ---- reading ---------------------------------------------------------------------------------------------------------------------------

-- the reader is lent 2,048 cells
abbrev pub cell_room : ℕ
cell_room = 2048

-- the reader's room of another length is 21, first
unfoldable pub read_refusal : List ℕ → List ℕ → ℕ
read_refusal s room = unless 21 (eqb (length room) cell_room) (picture_refusal s)

-- what the reader answers, and what stands in its room then
pub record Viewed : Type 0 where
  pub answer : Picture
  pub cells : List ℕ

abbrev pub viewed : ℕ → ℕ → ℕ → List ℕ → Viewed
viewed n R C cells = record { answer = record { number = n; rows = R; columns = C }; cells = cells }

unfoldable pub read_by : ℕ → List ℕ → List ℕ → Viewed
read_by n s room = pick (eqb n 0) (viewed 0 (rows_of s) (columns_of s) (over (picture_cells s) room)) (viewed n 0 0 room)

-- the reader returns the cells; room not filled stays as it was
unfoldable pub read_of : List ℕ → List ℕ → Viewed
read_of s room = read_by (read_refusal s room) s room

-- ---- the promises of the two calls -----------------------------------------------------------------------------------------------------

abbrev pub WritePictureIs : ℕ → ℕ → List ℕ → List ℕ → Value → List ℕ → Type 0
WritePictureIs rows columns shown out r out' = record { answer = r; out = out' } ≡ draw_of rows columns shown out

abbrev pub ReadPictureIs : List ℕ → List ℕ → Picture → List ℕ → Type 0
ReadPictureIs bytes cells r cells' = record { answer = r; cells = cells' } ≡ read_of bytes cells

-- ---- the two programs ------------------------------------------------------------------------------------------------------------------

unfoldable pub picture_by : List ℕ → Book → List ℕ
picture_by s b = pick (eqb b.number 0) (plain_form b.settings.rows b.settings.columns (book_end s b).shown) (printout_of s)

-- what `to_picture` writes of a book: the picture of the last shown board; a refused book prints only `refused N at P`, its printout
unfoldable pub picture_of : List ℕ → List ℕ
picture_of s = picture_by s (book_of s)

-- what `from_picture` prints: the picture's rows as the printout has them, or only `refused N`
unfoldable pub rows_printed : List ℕ → List ℕ
rows_printed s =
    pick (eqb (picture_refusal s) 0) (row_lines (rows_of s) (columns_of s) (picture_cells s)) (word_line word_refused (picture_refusal s ∷ []))
