-- Which desk is kept, and the numbers that fit a slot.
use Rattle.std.specs.Prelude.{◌≡◌, ◌&&◌, List, ℕ, suc, ◌*◌, ◌/◌, ◌≤◌, ◌<◌, eqb, ltb, length}
use Rattle.std.proofs.lemmas.List.Edits.{sets}
use Rattle.rules.specs.declared.Settings.{Settings}
use Rattle.rules.specs.declared.Position.{Position}
use Rattle.rules.specs.Words.{pick}
use Rattle.rules.specs.Lent.{bit_bytes}
use Rattle.rules.specs.Clicks.{Desk}
use Rattle.rules.specs.Calls.{cells_in}
use Rattle.rules.specs.Slides.{Kept, desk_bytes, size_for}

abbrev pub kept_of : ℕ → List ℕ → Kept
kept_of count room = record { count = count; room = room }

-- the boards have the lengths of the settings, which are not too large
pub record Boards (g : Settings) (shown bits : List ℕ) : Type 0 where
  pub cell : length shown ≡ cells_in g
  pub byte : length bits ≡ bit_bytes (cells_in g)
  pub few : cells_in g ≤ 2048

-- the desk after m accepted events is kept, if it is the next to keep and the room reaches so far
unfoldable pub keep_desk : ℕ → Settings → ℕ → Desk → Kept → Kept
keep_desk k g m d h =
    pick (eqb m (suc h.count * k) && ltb h.count (length h.room / size_for g))
    (kept_of (suc h.count) (sets h.room (h.count * size_for g) (desk_bytes d))) h

-- the numbers of a position fit four bytes
pub record Fits (p : Position) : Type 0 where
  pub preflags : p.preflags < 4294967296
  pub events : p.events < 4294967296
  pub left : p.counts.left < 4294967296
  pub right : p.counts.right < 4294967296
  pub double : p.counts.double < 4294967296
  pub lce : p.counts.lce < 4294967296
  pub rce : p.secrets.rce < 4294967296
  pub dce : p.counts.dce < 4294967296
  pub flag : p.counts.flag < 4294967296
  pub solved_left : p.secrets.solved_left < 4294967296
  pub solved_chord : p.secrets.solved_chord < 4294967296
  pub unopened : p.counts.unopened < 4294967296
