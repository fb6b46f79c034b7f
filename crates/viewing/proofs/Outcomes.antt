-- The reader by its contract: accepted with the picture's cells, which make a board without a fault, or refused with nothing written.
use mathlib.Core.Path.{◌≡◌, ap, ap₂, sym, ◌∙◌}
use mathlib.Core.Bool.{true}
use mathlib.Core.List.{List}
use Prim.Native.Nat.{ℕ, zero, suc, ◌*◌, ◌<◌}
use native.Mathlib.Omega.{arith}
use native.Mathlib.Decide.{ℕ_discrete}
use lib.Dec.{eqb}
use lib.ListN.{length, get_or, take, drop}
use lib.Seq.{take_at}
use borrow.Author.Tests.{ne_eqb}
use Rattle.rules.specs.declared.Picture.{Picture}
use Rattle.rules.specs.Words.{over}
use Rattle.rules.specs.Grid.{size_ok}
use Rattle.rules.specs.Picture.{is_shown, value_of, rest_of, is_marked, width_of, height_of, maximum_of, rows_of, columns_of, next_cell, cell_values, picture_cells, size_refusal, maximum_refusal, cells_refusal, picture_refusal, cell_room, read_refusal, Viewed, viewed, read_by, read_of, ReadPictureIs}
use Rattle.cells.proofs.Words.{unless_passed}
use Rattle.showing.proofs.Shown.{Showable, at_all}
use Rattle.tokens.proofs.Tokens.{due_there}
use Rattle.viewing.proofs.Cells.{cells_passed, values_length}
use Rattle.viewing.proofs.Viewing.{read_accepted, read_fits}

-- cells without a fault show values that can be shown
values_shown : (n : ℕ) (s : List ℕ) → cells_refusal n s ≡ 0 → (i : ℕ) → i < n → is_shown (get_or (cell_values n s) i 0) ≡ true
unfolding cell_values
values_shown zero s e i h = absurd (omega arith)
values_shown (suc n) s e zero h = (cells_passed n s e).shown
values_shown (suc n) s e (suc i) h = values_shown n (rest_of (next_cell s)) (cells_passed n s e).more i (omega arith)

-- a picture without a fault says a board without one
pub picture_showable : (s : List ℕ) → picture_refusal s ≡ 0 → Showable (rows_of s) (columns_of s) (picture_cells s)
unfolding picture_refusal size_refusal maximum_refusal
picture_showable s e =
    let marked = unless_passed 59 (is_marked s) _ e in
    let width = due_there 60 (width_of s) _ marked.1 in
    let height = due_there 60 (height_of s) _ width.1 in
    let size = unless_passed 60 (size_ok (rows_of s) (columns_of s)) _ height.1 in
    let maximum = due_there 61 (maximum_of s) _ size.1 in
    let cells = unless_passed 61 (eqb (value_of (maximum_of s)) 17) _ maximum.1 in
    let long : length (picture_cells s) ≡ rows_of s * columns_of s = values_length (rows_of s * columns_of s) (rest_of (maximum_of s)) in
    record {
      size = size.0;
      long = long;
      values = at_all (picture_cells s) (λ i h. values_shown (rows_of s * columns_of s) (rest_of (maximum_of s)) cells.1 i (omega arith));
    }

module _ (s room : List ℕ) where
  view_refused : (read_refusal s room ≡ 0 → ⊥) → read_of s room ≡ viewed (read_refusal s room) 0 0 room
  unfolding read_of read_by
  view_refused h = simp (ne_eqb (read_refusal s room) 0 h)

  module _ {r : Picture} {room' : List ℕ} (h : ReadPictureIs s room r room') where
    -- its number is the chain's
    pub read_number : r.number ≡ read_refusal s room
    read_number = go (ℕ_discrete (read_refusal s room) 0)
      where
        go : Dec (read_refusal s room ≡ 0) → r.number ≡ read_refusal s room
        go (yes e) = ap (λ (o : Viewed). o.answer.number) (h ∙ read_accepted s room e) ∙ sym e
        go (no e) = ap (λ (o : Viewed). o.answer.number) (h ∙ view_refused e)

    -- a refusal writes nothing
    pub read_picture_refused : (r.number ≡ 0 → ⊥) → (r ≡ record { number = read_refusal s room; rows = 0; columns = 0 }) × (room' ≡ room)
    read_picture_refused n =
        let e = h ∙ view_refused (λ z. n (read_number ∙ z)) in (ap (λ (o : Viewed). o.answer) e, ap (λ (o : Viewed). o.cells) e)

    module _ (z : r.number ≡ 0) where
      pub read_picture_accepted : (r ≡ record { number = 0; rows = rows_of s; columns = columns_of s }) × (room' ≡ over (picture_cells s) room)
      read_picture_accepted =
          let e = h ∙ read_accepted s room (sym read_number ∙ z) in (ap (λ (o : Viewed). o.answer) e, ap (λ (o : Viewed). o.cells) e)

      pub picture_accepted : picture_refusal s ≡ 0
      unfolding read_refusal
      picture_accepted = (unless_passed 20 (eqb (length room) cell_room) (picture_refusal s) (sym read_number ∙ z)).1

      -- the cells that were read
      pub read_cells : take (r.rows * r.columns) room' ≡ picture_cells s
      read_cells =
          let a = read_picture_accepted in
          ap₂ (λ (p : Picture) (l : List ℕ). take (p.rows * p.columns) l) a.0 a.1
          ∙ take_at (picture_cells s) (drop (length (picture_cells s)) room) (rows_of s * columns_of s) (picture_showable s picture_accepted).long

    -- a picture without a fault is accepted in room for 2,048 cells
    pub read_accepts : length room ≡ cell_room → picture_refusal s ≡ 0 → r.number ≡ 0
    read_accepts long e = read_number ∙ read_fits s room long ∙ e
