-- The promises of the slider: each one equation between what the call leaves and its definition. A list with a prime is what stands in the lent
-- memory after the call.
use Rattle.std.specs.Prelude.{◌≡◌, List, ℕ, ℤ, length}
use Rattle.rules.specs.declared.Book.{Book}
use Rattle.rules.specs.Slides.{Kept, Lent, Dragged, slide_to, book_tape, book_slots, dragged, drag_of, open_of}
use Rattle.keeping.specs.Keeps.{kept_of}
use Rattle.slider.specs.declared.Slider.{Slider}
use Rattle.slider.specs.declared.Opening.{Opening}
use Rattle.slider.specs.declared.Drag.{Drag}

abbrev pub lent_of : List ℤ → List ℕ → List ℕ → List ℕ → Lent
lent_of mines shown bits work = record { mines = mines; shown = shown; bits = bits; work = work }

-- what a drag answers, with what the lent lists are then
abbrev pub dragged_by : Drag → List ℤ → List ℕ → List ℕ → List ℕ → List ℕ → Dragged
dragged_by r mines shown bits work room = record {
  number = r.number;
  place = r.place;
  start = r.start;
  answer = r.answer;
  position = r.position;
  kept = kept_of r.slider.kept room;
  lent = lent_of mines shown bits work;
}

-- an accepted drag reads only the work of what is lent
abbrev pub dragged_on : List ℕ → Book → ℕ → ℕ → Kept → List ℕ → Dragged
dragged_on s b n k h work = dragged s b (slide_to (book_tape s b) (book_slots s b (length h.room)) k n h) work

abbrev pub OpenIs : List ℕ → Opening → Type 0
OpenIs s r = record { number = r.number; place = r.place; kept = r.slider.kept } ≡ open_of s

-- nothing is kept
abbrev pub ResetIs : Slider → Slider → Type 0
ResetIs slider r = r ≡ record { kept = 0 }

abbrev pub DragIs : ℕ → List ℕ → ℕ → ℕ → List ℤ → List ℕ → List ℕ → List ℕ → List ℕ → Drag → List ℤ → List ℕ → List ℕ → List ℕ → List ℕ → Type 0
DragIs kept s n k mines shown bits work room r mines' shown' bits' work' room' =
    dragged_by r mines' shown' bits' work' room' ≡ drag_of s n k (kept_of kept room) (lent_of mines shown bits work)
