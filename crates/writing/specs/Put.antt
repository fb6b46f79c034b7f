-- What it means to write a text into a lent buffer from a place on.
use Rattle.std.specs.Prelude.{◌≡◌, List, ℕ, ◌+◌, ◌≤◌, length}
use Rattle.std.proofs.lemmas.List.Edits.{sets}

-- the buffer has room for the text from the place on
pub record Room (text : List ℕ) (at : ℕ) (out : List ℕ) : Type 0 where
  pub fits : at + length text ≤ length out

-- afterwards the text stands from the place on, all else is as it was, and the answer is the place after the text
pub record Put (text : List ℕ) (at : ℕ) (out out' : List ℕ) (r : ℕ) : Type 0 where
  pub next : r ≡ at + length text
  pub same : out' ≡ sets out at text

-- the same, of a text that has at most so many bytes
pub record PutWithin (most : ℕ) (text : List ℕ) (at : ℕ) (out out' : List ℕ) (r : ℕ) : Type 0 where
  pub put : Put text at out out' r
  pub short : length text ≤ most
