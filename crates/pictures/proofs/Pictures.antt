-- The theorems on pictures, of the two calls by their contracts: one outcome, each number in its place, write_read, read-write.
-- That a refusal writes nothing, and that no picture is longer than its room, stand in drawing/proofs/Outcomes.antt and viewing/proofs/Outcomes.antt.
use mathlib.Core.Path.{◌≡◌, ap, ap₂, sym, subst, ◌∙◌}
use mathlib.Core.List.{List}
use Prim.Native.Nat.{ℕ, ◌*◌}
use lib.ListN.{length, take}
use Rattle.rules.specs.declared.Picture.{Picture}
use Rattle.rules.specs.declared.Value.{Value}
use Rattle.rules.specs.declared.Place.TheVariants.{Nowhere}
use Rattle.rules.specs.Words.{over}
use Rattle.rules.specs.Picture.{plain_form, byte_room, Drawn, draw_of, rows_of, columns_of, picture_cells, picture_refusal, cell_room, Viewed, read_of, WritePictureIs, ReadPictureIs}
use Rattle.refusals.specs.Rows.{Given}
use Rattle.refusals.proofs.Places.{first_given}
use Rattle.cells.proofs.Words.{one}
use Rattle.drawing.proofs.Outcomes.{write_number, write_picture_accepted, written_showable, written_text, write_accepts}
use Rattle.viewing.proofs.Outcomes.{picture_showable, read_number, read_picture_accepted, picture_accepted, read_cells, read_accepts}
use Rattle.pictures.specs.Rows.{write_rows, read_rows}
use Rattle.pictures.proofs.Round.{plain_rows, plain_columns, plain_accepted, plain_cells}
use Rattle.pictures.proofs.Places.{write_rows_lem, read_rows_lem}

-- ---- one outcome -------------------------------------------------------------------------------------------------------------------------

pub write_picture_one : (R C : ℕ) (shown out : List ℕ) {r q : Value} {out' out'' : List ℕ} → WritePictureIs R C shown out r out' → WritePictureIs R C shown out q out''
    → (r ≡ q) × (out' ≡ out'')
write_picture_one R C shown out h k = let e = one h k in (ap (λ (o : Drawn). o.answer) e, ap (λ (o : Drawn). o.out) e)

pub read_picture_one : (s room : List ℕ) {r q : Picture} {room' room'' : List ℕ} → ReadPictureIs s room r room' → ReadPictureIs s room q room'' → (r ≡ q) × (room' ≡ room'')
read_picture_one s room h k = let e = one h k in (ap (λ (o : Viewed). o.answer) e, ap (λ (o : Viewed). o.cells) e)

-- ---- each number in its place of the order -----------------------------------------------------------------------------------------------

pub write_picture_given : (R C : ℕ) (shown out : List ℕ) {r : Value} {out' : List ℕ} → WritePictureIs R C shown out r out' → Given (write_rows R C shown out) r.number
write_picture_given R C shown out h =
    subst (λ (n : ℕ). Given (write_rows R C shown out) n) (sym (write_number R C shown out h ∙ write_rows_lem R C shown out)) (first_given (write_rows R C shown out))

pub read_picture_given : (s room : List ℕ) {r : Picture} {room' : List ℕ} → ReadPictureIs s room r room' → Given (read_rows s room) r.number
read_picture_given s room h =
    subst (λ (n : ℕ). Given (read_rows s room) n) (sym (read_number s room h ∙ read_rows_lem s room)) (first_given (read_rows s room))

-- ---- write_read --------------------------------------------------------------------------------------------------------------------------

-- for every board that the writer accepts, reading what it wrote gives 0, the same size, the same cells
pub write_read : (R C : ℕ) (shown out room : List ℕ) {w : Value} {out' : List ℕ} {r : Picture} {room' : List ℕ}
    → WritePictureIs R C shown out w out' → w.number ≡ 0 → length room ≡ cell_room → ReadPictureIs (take w.value out') room r room'
    → (r ≡ record { number = 0; rows = R; columns = C }) × (room' ≡ over shown room)
write_read R C shown out room {r = r} {room' = room'} h z fits k =
    let ours = written_showable R C shown out h z in
    let form : List ℕ = plain_form R C shown in
    let reads : ReadPictureIs form room r room' = k ∙ ap (λ (s : List ℕ). read_of s room) (written_text R C shown out h z) in
    let a = read_picture_accepted form room reads (read_accepts form room reads fits (plain_accepted R C shown ours)) in (
      a.0 ∙ ap₂ (λ (x y : ℕ). record { number = 0; rows = x; columns = y }) (plain_rows R C shown ours) (plain_columns R C shown ours),
      a.1 ∙ ap (λ (l : List ℕ). over l room) (plain_cells R C shown ours),
    )

-- ---- read-write --------------------------------------------------------------------------------------------------------------------------

-- the one plain form of what a picture says
abbrev pub plain_of : List ℕ → List ℕ
plain_of s = plain_form (rows_of s) (columns_of s) (picture_cells s)

-- where the reader accepts, the writer accepts what it gave and writes the one plain form
pub read_write : (s room out : List ℕ) {r : Picture} {room' : List ℕ} {w : Value} {out' : List ℕ}
    → ReadPictureIs s room r room' → r.number ≡ 0 → length out ≡ byte_room → WritePictureIs r.rows r.columns (take (r.rows * r.columns) room') out w out'
    → (w ≡ record { number = 0; place = Nowhere; value = length (plain_of s) }) × (out' ≡ over (plain_of s) out)
read_write s room out {r} {room'} {w} {out'} h z long k =
    let writes : WritePictureIs (rows_of s) (columns_of s) (picture_cells s) out w out' =
    k ∙ ap (λ (p : Picture). draw_of p.rows p.columns (take (r.rows * r.columns) room') out) (read_picture_accepted s room h z).0
    ∙ ap (λ (l : List ℕ). draw_of (rows_of s) (columns_of s) l out) (read_cells s room h z) in
    write_picture_accepted (rows_of s) (columns_of s) (picture_cells s) out writes
    (write_accepts (rows_of s) (columns_of s) (picture_cells s) out writes (picture_showable s (picture_accepted s room h z)) long)

-- the plain form reads to itself: it is a picture, and its own plain form
pub plain_itself : (s : List ℕ) → picture_refusal s ≡ 0 → (picture_refusal (plain_of s) ≡ 0) × (plain_of (plain_of s) ≡ plain_of s)
plain_itself s e =
    let R : ℕ = rows_of s in
    let C : ℕ = columns_of s in
    let b = picture_showable s e in (
      plain_accepted R C (picture_cells s) b,
      ap (λ (x : ℕ). plain_form x (columns_of (plain_of s)) (picture_cells (plain_of s))) (plain_rows R C (picture_cells s) b)
          ∙ ap (λ (x : ℕ). plain_form R x (picture_cells (plain_of s))) (plain_columns R C (picture_cells s) b)
          ∙ ap (plain_form R C) (plain_cells R C (picture_cells s) b),
    )

-- two pictures say the same: rows, columns, cells
pub record Alike (s s' : List ℕ) : Type 0 where
  pub rows : rows_of s ≡ rows_of s'
  pub columns : columns_of s ≡ columns_of s'
  pub cells : picture_cells s ≡ picture_cells s'

-- two inputs that read alike write alike ..
pub read_alike : (s s' : List ℕ) → Alike s s' → plain_of s ≡ plain_of s'
read_alike s s' a =
    ap (λ (x : ℕ). plain_form x (columns_of s) (picture_cells s)) a.rows ∙ ap (λ (x : ℕ). plain_form (rows_of s') x (picture_cells s)) a.columns
    ∙ ap (plain_form (rows_of s') (columns_of s')) a.cells

-- .. and no others do
pub write_alike : (s s' : List ℕ) → picture_refusal s ≡ 0 → picture_refusal s' ≡ 0 → plain_of s ≡ plain_of s' → Alike s s'
write_alike s s' e e' same =
    let b = picture_showable s e in
    let b' = picture_showable s' e' in
    record {
      rows = sym (plain_rows (rows_of s) (columns_of s) (picture_cells s) b) ∙ ap rows_of same ∙ plain_rows (rows_of s') (columns_of s') (picture_cells s') b';
      columns =
          sym (plain_columns (rows_of s) (columns_of s) (picture_cells s) b) ∙ ap columns_of same ∙ plain_columns (rows_of s') (columns_of s') (picture_cells s') b';
      cells = sym (plain_cells (rows_of s) (columns_of s) (picture_cells s) b) ∙ ap picture_cells same ∙ plain_cells (rows_of s') (columns_of s') (picture_cells s') b';
    }
