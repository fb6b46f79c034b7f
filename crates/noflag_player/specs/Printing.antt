-- What printing a book of the class requires of what is lent, and what it ensures.
use Rattle.std.specs.Prelude.{◌≡◌, List, [], ◌∷◌, ℕ, suc, ◌+◌, ◌*◌, ◌/◌, ◌%◌, ◌≤◌, ltb, leb, length, drop}
use Rattle.rules.specs.Words.{pick, over}
use Rattle.rules.specs.Clicks.{Desk, Play, desk, done}
use Rattle.rules.specs.Step.{pointer_of}
use Rattle.rules.specs.Printout.{event_lines}
use Rattle.writing.specs.Put.{Put, PutWithin}
use Rattle.games.specs.declared.Told.{Told}
use Rattle.player.specs.Rooms.{text_fits, written, Written}
use Rattle.rules.specs.Noflag.{forbidden, class_printout_of}
use Rattle.noflag.specs.Class.{forbids}

-- ---- a row of events, cut before its first forbidden one ---------------------------------------------------------------------------------

-- the bytes before it
unfoldable pub free_in : List ℕ → ℕ
free_in [] = 0
free_in (code ∷ []) = 0
free_in (code ∷ r ∷ []) = 0
free_in (code ∷ r ∷ c ∷ es) =
    let rest = free_in es in
    pick (forbidden code) 0 (suc (suc (suc rest)))

pub record Free (events : List ℕ) (n : ℕ) : Type 0 where
  pub free : n ≡ free_in events
  pub whole : n % 3 ≡ 0
  pub within : n ≤ length events

-- the play of the event that a row begins with, where that is forbidden, at a desk; none where there is no event
unfoldable pub barred_at : List ℕ → Desk → List Play
barred_at [] d = []
barred_at (code ∷ []) d = []
barred_at (code ∷ r ∷ []) d = []
barred_at (code ∷ r ∷ c ∷ es) d = done (forbids (ltb d.position.events 65535) (pointer_of d.position.settings r c)) d ∷ []

-- after what the events before it came to: none where one of them was refused
abbrev pub barred_after : List ℕ → Play → List Play
barred_after es o = pick (leb 20 o.answer) [] (barred_at es o.desk)

-- ---- its line ------------------------------------------------------------------------------------------------------------------------------

-- the event at n is whole, its number is that of a book's event, and there is room for a line
pub record BarredFits (t : Told) (events : List ℕ) (n : ℕ) (out : List ℕ) : Type 0 where
  pub whole : length events % 3 ≡ 0
  pub free : n % 3 ≡ 0
  pub within : n ≤ length events
  pub few : length events ≤ 24576
  pub fits : t.at + 20 ≤ length out

-- its line was written, where it has one; the lines of a row are no more than its events
pub record BarredPut (t : Told) (events : List ℕ) (n : ℕ) (out out' : List ℕ) (r : ℕ) : Type 0 where
  pub put : (shown bits : List ℕ)
      → Put (event_lines (n / 3 + 1) (barred_after (drop n events) (done t.answer (desk t.position shown bits)))) t.at out out' r
  pub short : 3 * r + 20 * n ≤ 3 * t.at + 20 * length events

-- ---- the printout ------------------------------------------------------------------------------------------------------------------------

-- the text stands at the front
pub record TextPut (s out : List ℕ) (r : ℕ) (out' : List ℕ) : Type 0 where
  pub text : PutWithin 172184 (class_printout_of s) 0 out out' r

-- how many bytes were handed over to be written, and what stands in the lent text room: these bytes at its front
unfoldable pub written_of : List ℕ → List ℕ → Written
written_of s out =
    pick (text_fits (length s) (length out)) (written (length (class_printout_of s)) (over (class_printout_of s) out)) (written 0 out)

abbrev pub WritePrintoutIs : List ℕ → List ℕ → ℕ → List ℕ → Type 0
WritePrintoutIs s out r out' = written r out' ≡ written_of s out
