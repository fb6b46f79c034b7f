-- What is printed of a picture, by its two cases, and the room that its rows need.
use mathlib.Core.Path.{◌≡◌, ap, sym, ◌∙◌}
use mathlib.Core.List.{List, [], ◌∷◌}
use Prim.Native.Nat.{ℕ, ◌*◌, ◌≤◌}
use native.Mathlib.Omega.{arith}
use lib.ListN.{length, take, drop}
use lib.Seq.{length-take-le, take_at}
use borrow.Author.Tests.{eq-eqb, ne_eqb}
use Rattle.rules.specs.declared.Picture.{Picture}
use Rattle.rules.specs.Printout.{word_line, word_refused, row_lines}
use Rattle.rules.specs.Picture.{rows_of, columns_of, picture_refusal, ReadPictureIs, rows_printed}
use Rattle.cells.specs.Ground.{Sized}
use Rattle.cells.proofs.Grid.{size_limits}
use Rattle.cells.proofs.Words.{product_same}
use Rattle.writing.specs.Put.{Room, Put, PutWithin}
use Rattle.writing.proofs.Putting.{room_within, put_as, put_over}
use Rattle.text.specs.Rows.{RowsFit}
use Rattle.text.proofs.Lengths.{word_line_most}
use Rattle.viewing.proofs.Viewing.{read_fits}
use Rattle.viewing.proofs.Outcomes.{picture_showable, read_number, read_picture_accepted, picture_accepted, read_cells}

refused_short : (n : ℕ) → length (word_line word_refused (n ∷ [])) ≤ 8192
refused_short n = let m = word_line_most word_refused (n ∷ []) in omega arith

pub refused_room : (n : ℕ) {out : List ℕ} → 8192 ≤ length out → Room (word_line word_refused (n ∷ [])) 0 out
refused_room n h = room_within 8192 (refused_short n) (omega arith)

-- a text by another name, within the room
printed_as : {text text' out out' : List ℕ} {k : ℕ} → text ≡ text' → length text ≤ 8192 → Put text 0 out out' k → PutWithin 8192 text' 0 out out' k
printed_as e h q = record { put = put_as e q; short = let l = ap length e in omega arith }

module _ (s cells : List ℕ) {cells' : List ℕ} {p : Picture} (long : length cells ≡ 2048) (h : ReadPictureIs s cells p cells') where
  number_is : p.number ≡ picture_refusal s
  number_is = read_number s cells h ∙ read_fits s cells long

  pub refused_printed : {out out' : List ℕ} {k : ℕ} → (p.number ≡ 0 → ⊥) → Put (word_line word_refused (p.number ∷ [])) 0 out out' k
      → PutWithin 8192 (rows_printed s) 0 out out' k
  unfolding rows_printed
  refused_printed n q =
      printed_as
      (ap (λ (m : ℕ). word_line word_refused (m ∷ [])) number_is ∙ sym (simp (ne_eqb (picture_refusal s) 0 (λ e. n (number_is ∙ e)))))
      (refused_short p.number) q

  module _ (z : p.number ≡ 0) {n : ℕ} (k : n ≡ p.rows * p.columns) where
    sized : Sized p.rows p.columns
    sized =
        let a = (read_picture_accepted s cells h z).0 in
        rw (ap (λ (x : Picture). x.rows) a, ap (λ (x : Picture). x.columns) a)
        (size_limits (rows_of s) (columns_of s) (picture_showable s (picture_accepted s cells h z)).size)

    pub cells_within : length cells' ≡ length cells → n ≤ length cells'
    cells_within same = let m = sized.cells in omega arith

    module _ {r c : ℕ} (rows : r ≡ p.rows) (columns : c ≡ p.columns) where
      pub rows_fit : {out : List ℕ} → length cells' ≡ length cells → 8192 ≤ length out → RowsFit r c (take n cells') 0 out
      rows_fit same room =
          let m = sized.cells in
          let w = sized.column in
          let x = product_same rows columns in
          let l = length-take-le n cells' (cells_within same) in
          record { column = omega arith; cells = omega arith; fits = omega arith }

      pub rows_printed_lem : {out out' : List ℕ} {q : ℕ} → PutWithin (4 * (r * c)) (row_lines r c (take n cells')) 0 out out' q → PutWithin 8192 (rows_printed s) 0 out out' q
      unfolding rows_printed
      rows_printed_lem q =
          let a = (read_picture_accepted s cells h z).0 in
          let m = sized.cells in
          let x = product_same rows columns in
          let short = q.short in
          let e : picture_refusal s ≡ 0 = sym number_is ∙ z in
          printed_as
          (ap (λ (i : ℕ). row_lines i c (take n cells')) (rows ∙ ap (λ (y : Picture). y.rows) a)
          ∙ ap (λ (i : ℕ). row_lines (rows_of s) i (take n cells')) (columns ∙ ap (λ (y : Picture). y.columns) a)
          ∙ ap (λ (i : ℕ). row_lines (rows_of s) (columns_of s) (take i cells')) k
          ∙ ap (row_lines (rows_of s) (columns_of s)) (read_cells s cells h z) ∙ sym (simp (eq-eqb (picture_refusal s) 0 e)))
          (omega arith) q.put

-- ---- what is handed over -----------------------------------------------------------------------------------------------------------------

module _ {text out out' : List ℕ} {r : ℕ} (room : 8192 ≡ length out) (q : PutWithin 8192 text 0 out out' r) where
  pub handed_fits : length out' ≡ length out → r ≤ length out'
  handed_fits same = let n = q.put.next in let m = q.short in omega arith

  pub handed_whole : take r out' ≡ text
  handed_whole =
      let m = q.short in
      let n = q.put.next in
      ap (take r) (put_over (omega arith) q.put) ∙ take_at text (drop (length text) out) r (omega arith)
