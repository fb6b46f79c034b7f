-- A book's hint: the last shown board of an accepted book is asked about, and what is handed over is the definition's.
use mathlib.Core.Path.{◌≡◌, ◌∙◌, ap}
use mathlib.Core.List.{List, [], ◌∷◌, ◌++◌}
use Prim.Native.Nat.{ℕ, ◌*◌, ◌<◌, ◌≤◌}
use native.Mathlib.Omega.{arith}
use lib.ListN.{length, take, drop}
use lib.Seq.{take_at}
use Rattle.rules.specs.declared.Book.{Book}
use Rattle.rules.specs.Book.{book_of}
use Rattle.rules.specs.Printout.{book_end}
use Rattle.book.specs.Written.{longest}
use Rattle.writing.specs.Put.{Room, Put, PutWithin}
use Rattle.writing.proofs.Putting.{put_length, put_then, put_over}
use Rattle.rules.specs.declared.Hint.{Hint}
use Rattle.rules.specs.Trainer.{hint_of, HintIs, hint_words, book_hint_by, book_hint}
use Rattle.last_board.specs.Last.{Last, Ended}
use Rattle.last_board.proofs.Showable.{board_is}
use Rattle.last_board.proofs.Told.{told_accepted, told_refused, prefix_told}

-- a hint on its line
abbrev line_of : Hint → List ℕ
line_of h = hint_words h ++ (10 ∷ [])

-- the hint of an accepted book
abbrev hinted_of : List ℕ → Book → List ℕ
hinted_of s b = line_of (hint_of b.settings.rows b.settings.columns (book_end s b).shown)

module _ (h : Hint) {out out' : List ℕ} {m : ℕ} (room : 52 ≡ length out) (p : PutWithin 51 (hint_words h) 0 out out' m) where
  -- room for the line's end
  pub end_room : Room (10 ∷ []) m out'
  end_room = let a = p.put.next in let b = p.short in let c = put_length p.put in record { fits = omega arith }

  module _ {out'' : List ℕ} {n : ℕ} (q : Put (10 ∷ []) m out' out'' n) where
    pub line_fits : n ≤ length out''
    line_fits =
        let a = p.put.next in let b = q.next in let c = p.short in let d = put_length p.put in let e = put_length q in omega arith

    line_written : take n out'' ≡ line_of h
    line_written =
        let w = put_then p.put q in
        let long = w.next in
        let a = p.put.next in
        let b = q.next in
        let c = p.short in
        ap (take n) (put_over (omega arith) w) ∙ take_at (line_of h) (drop (length (line_of h)) out) n (omega arith)

    -- of the last shown board of an accepted book it is the book's hint
    pub line_handed : (s : List ℕ) (b : Book) → b ≡ book_of s → b.number ≡ 0 → {shown : List ℕ} → Last s b shown → {cells : ℕ}
        → cells ≡ b.settings.rows * b.settings.columns → HintIs b.settings.rows b.settings.columns (take cells shown) h → take n out'' ≡ book_hint s
    unfolding book_hint book_hint_by
    line_handed s b e z l k is =
        line_written ∙ ap line_of (is ∙ ap (hint_of b.settings.rows b.settings.columns) (board_is s b e z l k)) ∙ told_accepted hinted_of s b e z

-- a refused book: its printout is its hint
pub text_handed : (s : List ℕ) {shown text : List ℕ} {r : ℕ} → Ended s shown text r → (b : Book) → b ≡ book_of s → (b.number ≡ 0 → ⊥) → take r text ≡ book_hint s
unfolding book_hint book_hint_by
text_handed s h b e n = told_refused hinted_of s b e h n

-- the first n bytes, where n is more than the longest book has, have the hint of all
pub prefix_hint : (s : List ℕ) (n : ℕ) → longest < n → book_hint (take n s) ≡ book_hint s
unfolding book_hint book_hint_by
prefix_hint s n long = prefix_told hinted_of s n long
