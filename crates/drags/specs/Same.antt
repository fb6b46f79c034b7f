-- What a drag is held to: the flow of the first n events from the start, and the start that it tells.
use Rattle.std.specs.Prelude.{◌≡◌, List, ℕ, ◌*◌, ◌≤◌, take}
use Rattle.rules.specs.Clicks.{Play, desk}
use Rattle.rules.specs.Calls.{Outcome, flow_of}
use Rattle.rules.specs.Book.{book_of, events_of}
use Rattle.rules.specs.Printout.{book_board, book_desk}
use Rattle.flows.specs.Runs.{flow_on}
use Rattle.rules.specs.Slides.{flow_number, Kept, Dragged}

-- the flow of the first n events of a book, from its fresh desk
abbrev pub from_the_start : List ℕ → ℕ → Play
from_the_start s n = flow_on (book_board s (book_of s)) (take (3 * n) (events_of s (book_of s))) (book_desk s (book_of s))

-- a drag to n over what was kept before it: the answer, the position, the shown board and the bits are those of the first n events from the start;
-- it started from the largest one kept and not after n, or 0
pub record Slid (s : List ℕ) (k n : ℕ) (h : Kept) (o : Dragged) : Type 0 where
  pub answered : o.answer ≡ flow_number (from_the_start s n)
  pub left : desk o.position o.lent.shown o.lent.bits ≡ (from_the_start s n).desk
  pub slot : ℕ
  pub start : o.start ≡ slot * k
  pub kept : slot ≤ h.count
  pub before : slot * k ≤ n
  pub largest : (j : ℕ) → j ≤ h.count → j * k ≤ n → j ≤ slot

-- step_flow of the first n events, from the fresh desk, with some work
abbrev pub flowed_to : List ℕ → ℕ → List ℕ → Outcome
flowed_to s n work = flow_of (book_board s (book_of s)) (take (3 * n) (events_of s (book_of s))) (book_desk s (book_of s)) work

-- a drag answers what it answers, and leaves its position, shown board and bits
pub record AsFlowed (s : List ℕ) (n : ℕ) (work : List ℕ) (o : Dragged) : Type 0 where
  pub number : o.answer ≡ (flowed_to s n work).answer.number
  pub position : o.position ≡ (flowed_to s n work).answer.position
  pub shown : o.lent.shown ≡ (flowed_to s n work).shown
  pub bits : o.lent.bits ≡ (flowed_to s n work).bits
