-- A book's picture: the writer accepts the last shown board of every accepted book, and what is handed over is the definition's.
use mathlib.Core.Path.{◌≡◌, ◌∙◌, ap, sym}
use mathlib.Core.List.{List}
use Prim.Native.Nat.{ℕ, ◌*◌, ◌<◌, ◌≤◌}
use native.Mathlib.Omega.{arith}
use lib.ListN.{length, take}
use Rattle.rules.specs.declared.Book.{Book}
use Rattle.rules.specs.declared.Value.{Value}
use Rattle.rules.specs.Book.{book_of}
use Rattle.rules.specs.Printout.{book_end}
use Rattle.rules.specs.Picture.{plain_form, draw_of, WritePictureIs, picture_by, picture_of}
use Rattle.book.specs.Written.{longest}
use Rattle.drawing.proofs.Outcomes.{written_text, written_longest, write_accepts}
use Rattle.last_board.specs.Last.{Last, Ended}
use Rattle.last_board.proofs.Showable.{end_showable, board_is}
use Rattle.last_board.proofs.Told.{told_accepted, told_refused, prefix_told}

-- the picture of an accepted book
abbrev drawn_of : List ℕ → Book → List ℕ
drawn_of s b = plain_form b.settings.rows b.settings.columns (book_end s b).shown

module _ (s : List ℕ) (b : Book) (e : b ≡ book_of s) (z : b.number ≡ 0) {shown : List ℕ} (l : Last s b shown) {cells : ℕ}
    (k : cells ≡ b.settings.rows * b.settings.columns) {w : Value} (out : List ℕ) {out' : List ℕ} (room : 6156 ≡ length out)
    (h : WritePictureIs b.settings.rows b.settings.columns (take cells shown) out w out') where
  pub picture_fits : length out' ≡ length out → w.value ≤ length out'
  picture_fits same = let m = written_longest b.settings.rows b.settings.columns (take cells shown) out h in omega arith

  -- the writer accepts the board, and what it wrote is the book's picture
  pub picture_handed : take w.value out' ≡ picture_of s
  unfolding picture_of picture_by
  picture_handed =
      let writes : WritePictureIs b.settings.rows b.settings.columns (book_end s b).shown out w out' =
      h ∙ ap (λ (x : List ℕ). draw_of b.settings.rows b.settings.columns x out) (board_is s b e z l k) in
      written_text b.settings.rows b.settings.columns (book_end s b).shown out writes
      (write_accepts b.settings.rows b.settings.columns (book_end s b).shown out writes (end_showable s b e z) (sym room))
      ∙ told_accepted drawn_of s b e z

-- a refused book: its printout is its picture
pub text_handed : (s : List ℕ) {shown text : List ℕ} {r : ℕ} → Ended s shown text r → (b : Book) → b ≡ book_of s → (b.number ≡ 0 → ⊥) → take r text ≡ picture_of s
unfolding picture_of picture_by
text_handed s h b e n = told_refused drawn_of s b e h n

-- the first n bytes, where n is more than the longest book has, have the picture of all
pub prefix_picture : (s : List ℕ) (n : ℕ) → longest < n → picture_of (take n s) ≡ picture_of s
unfolding picture_of picture_by
prefix_picture s n long = prefix_told drawn_of s n long
