-- What the slider's core ensures of a row of records, and of the way from one event to another.
use Rattle.std.specs.Prelude.{List, ℕ, ◌+◌, ◌-◌, ◌%◌, ◌≤◌, ◌<◌, ℤ, length}
use Rattle.rules.specs.declared.Settings.{Settings}
use Rattle.rules.specs.declared.Position.{Position}
use Rattle.rules.specs.Clicks.{Desk, desk, done}
use Rattle.cells.specs.Promises.{Leaves}
use Rattle.rules.specs.Slides.{Kept, Gliding, glide_from, tape_of, slots_of}
use Rattle.keeping.specs.Keeps.{kept_of}
use Rattle.gliding.specs.declared.Glided.{Glided}

abbrev pub gliding : ℕ → Position → List ℕ → List ℕ → ℕ → List ℕ → Gliding
gliding a p shown bits count room = record { last = done a (desk p shown bits); kept = kept_of count room }

-- where a row stops: after at least one event, not after the last, not past the next event to keep
pub record Stops (e to k r : ℕ) : Type 0 where
  pub after : e < r
  pub within : r ≤ to
  pub next : r ≤ e + (k - e % k)

-- the slider's way from one event to another
unfoldable pub glide_of : List ℤ → List ℕ → ℕ → ℕ → ℕ → Settings → Desk → Kept → Gliding
glide_of B es k from to g d h = glide_from (tape_of B es d) (slots_of B g (length h.room)) k to from d h

-- one row of it
pub record Rows (B : List ℤ) (es : List ℕ) (k e to : ℕ) (d : Desk) (h : Kept) (work : List ℕ) (r : Glided) (shown' bits' work' room' : List ℕ) : Type 0 where
  pub stops : Stops e to k r.at
  pub leaves : Leaves (gliding r.answer r.position shown' bits' r.kept room') (glide_of B es k e r.at d.position.settings d h) work work'
