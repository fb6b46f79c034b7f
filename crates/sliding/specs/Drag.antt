-- What an accepted drag requires of what is lent, and what it ensures.
use Rattle.std.specs.Prelude.{◌≡◌, List, ℕ, ◌*◌, ◌/◌, ◌≤◌, ℤ, length}
use Rattle.rules.specs.declared.Settings.{Settings}
use Rattle.rules.specs.declared.Position.{Position}
use Rattle.rules.specs.Clicks.{desk}
use Rattle.rules.specs.Calls.{fresh_desk}
use Rattle.keep.specs.Kept.{LawfulAt}
use Rattle.game.specs.Core.{Blank}
use Rattle.rules.specs.Slides.{Kept, Slide, slide_from, slide_to, tape_of, size_for, slots_of}
use Rattle.gliding.specs.Glides.{gliding}
use Rattle.sliding.specs.declared.Slid.{Slid}

-- the desk is the board's fresh one, and lawful; the work is lent as zeros
pub record Ready (B : List ℤ) (k : ℕ) (p : Position) (shown bits work : List ℕ) : Type 0 where
  pub fresh : desk p shown bits ≡ fresh_desk p.settings B
  pub lawful : LawfulAt B (desk p shown bits)
  pub blank : Blank p.settings work
  pub some : 1 ≤ k

-- a slot that is kept, in the room, with its events not after n
pub record Startable (g : Settings) (n k j : ℕ) (room : List ℕ) : Type 0 where
  pub some : 1 ≤ j
  pub inside : j ≤ length room / size_for g
  pub before : j * k ≤ n

-- what the code answers, with the boards and the room
abbrev pub slid : Slid → List ℕ → List ℕ → List ℕ → Slide
slid r shown bits room = record { start = r.start; glided = gliding r.glided.answer r.glided.position shown bits r.glided.kept room }

-- a drag from a slot on, and a drag
unfoldable pub drag_from : List ℤ → List ℕ → Settings → ℕ → ℕ → ℕ → Kept → Slide
drag_from B es g n k j h = slide_from (tape_of B es (fresh_desk g B)) (slots_of B g (length h.room)) k n j h

unfoldable pub drag_to : List ℤ → List ℕ → Settings → ℕ → ℕ → Kept → Slide
drag_to B es g n k h = slide_to (tape_of B es (fresh_desk g B)) (slots_of B g (length h.room)) k n h
