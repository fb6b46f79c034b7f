-- The boards that a book is played on: their lengths, and how a game begins and ends on them.
use Rattle.std.specs.Prelude.{◌≡◌, List, ◌++◌, ℕ, ◌≤◌, length, drop, replicate, ℤ}
use Rattle.rules.specs.declared.Book.{Book}
use Rattle.rules.specs.declared.Settings.{Settings}
use Rattle.rules.specs.declared.Position.{Position}
use Rattle.rules.specs.Lent.{bit_bytes, work_room}
use Rattle.rules.specs.Clicks.{desk}
use Rattle.rules.specs.Calls.{cells_in}
use Rattle.rules.specs.Printout.{book_board, book_desk}
use Rattle.writing.specs.Put.{PutWithin}

-- the boards have the lengths of the settings, and the work its room
pub record Fit (s : Settings) (mines : List ℤ) (shown bits work : List ℕ) : Type 0 where
  pub mine : length mines ≡ cells_in s
  pub cell : length shown ≡ cells_in s
  pub byte : length bits ≡ bit_bytes (cells_in s)
  pub room : work_room (cells_in s) ≤ length work

-- the position and the boards of a game that nobody has touched
pub record Begun (s : List ℕ) (b : Book) (work : List ℕ) (p : Position) (mines : List ℤ) (shown bits work' : List ℕ) : Type 0 where
  pub board : mines ≡ book_board s b
  pub fresh : desk p shown bits ≡ book_desk s b
  pub blank : work' ≡ replicate (work_room (cells_in b.settings)) 0 ++ drop (work_room (cells_in b.settings)) work

-- the text was written, and the work came back as it was lent
pub record Ended (most : ℕ) (text : List ℕ) (at : ℕ) (out out' : List ℕ) (r : ℕ) (work work' : List ℕ) : Type 0 where
  pub put : PutWithin most text at out out' r
  pub same : work' ≡ work
