-- What a row of events, played and printed, requires of what is lent, and what it ensures; and what a whole game leaves.
use Rattle.std.specs.Prelude.{◌≡◌, List, ℕ, ◌+◌, ◌*◌, ◌%◌, ◌≤◌, length, ℤ}
use Rattle.rules.specs.declared.Book.{Book}
use Rattle.rules.specs.declared.Position.{Position}
use Rattle.rules.specs.Lent.{work_after}
use Rattle.rules.specs.Clicks.{desk, done}
use Rattle.rules.specs.Calls.{plays, cells_in}
use Rattle.rules.specs.Printout.{event_lines, book_board, book_end, printout_of}
use Rattle.flows.specs.Runs.{flow_on}
use Rattle.writing.specs.Put.{Put, PutWithin}
use Rattle.games.specs.declared.Told.{Told}

-- whole events, no more than a book may have, and room for a line of 20 bytes for each
pub record EventsFit (events : List ℕ) (at : ℕ) (out : List ℕ) : Type 0 where
  pub whole : length events % 3 ≡ 0
  pub few : length events ≤ 24576
  pub fits : 3 * at + 20 * length events ≤ 3 * length out

-- the events were played, and a line for each written; the work came back as it was lent
pub record EventsPrinted (B : List ℤ) (events : List ℕ) (p : Position) (shown bits work : List ℕ) (at : ℕ) (out : List ℕ) (r : Told) (shown' bits' work' out' : List ℕ) : Type 0 where
  pub outcome : done r.answer (desk r.position shown' bits') ≡ flow_on B events (desk p shown bits)
  pub put : Put (event_lines 1 (plays B events (desk p shown bits))) at out out' r.at
  pub short : 3 * r.at ≤ 3 * at + 20 * length events
  pub same : work' ≡ work

-- a book's game was played and printed: the boards are those after its last event, and the work is cleared
pub record GamePrinted (s : List ℕ) (b : Book) (work out : List ℕ) (r : ℕ) (mines' : List ℤ) (shown' bits' work' out' : List ℕ) : Type 0 where
  pub text : PutWithin 172184 (printout_of s) 0 out out' r
  pub board : mines' ≡ book_board s b
  pub shown : shown' ≡ (book_end s b).shown
  pub bits : bits' ≡ (book_end s b).bits
  pub cleared : work' ≡ work_after (cells_in b.settings) work
