-- What stands in the rooms for the shown board and the text after a book was played.
use Rattle.std.specs.Prelude.{◌≡◌, List, ℕ, ◌≤◌, length, take}
use Rattle.rules.specs.declared.Book.{Book}
use Rattle.rules.specs.Words.{over}
use Rattle.rules.specs.Book.{book_of}
use Rattle.rules.specs.Printout.{book_end, printout_of}

-- room for every book, with the shown board after the last event at its front
pub record Last (s : List ℕ) (b : Book) (shown : List ℕ) : Type 0 where
  pub before : List ℕ
  pub same : shown ≡ over (book_end s b).shown before
  pub room : 2048 ≤ length shown

-- the printout, whole, and an accepted book's last shown board
pub record Ended (s shown text : List ℕ) (r : ℕ) : Type 0 where
  pub fits : r ≤ length text
  pub whole : take r text ≡ printout_of s
  pub last : (b : Book) → b ≡ book_of s → b.number ≡ 0 → Last s b shown
