-- What is known of a book's game once its events are played.
use Rattle.std.specs.Prelude.{◌≡◌, List, ℕ, ◌+◌, ◌≤◌, length}
use Rattle.rules.specs.declared.Book.{Book}
use Rattle.rules.specs.declared.Played.{Played}
use Rattle.rules.specs.Printout.{book_plays}
use Rattle.rules.specs.Claims.{book_last}

-- the answer and the position of its last play; a refused one has the number after the events counted there, which are few
pub record LastPlayed (s : List ℕ) (b : Book) (r : Played) : Type 0 where
  pub answer : r.answer ≡ (book_last s b).answer
  pub position : r.position ≡ (book_last s b).desk.position
  pub few : r.position.events ≤ 65535
  pub number : 20 ≤ r.answer → r.position.events + 1 ≡ length (book_plays s b)
