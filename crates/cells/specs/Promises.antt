-- What a playing function may rely on, and what it leaves: one chain of records from the opening up to a row of events.
-- A count that grows is answered in `Room`, a number beside the answer in `play`.
use Rattle.std.specs.Prelude.{◌≡◌, List, ℕ, ◌+◌, ◌*◌, ◌≤◌, length, get_or, ℤ}
use Rattle.rules.specs.declared.Settings.{Settings}
use Rattle.rules.specs.declared.Counts.{Counts}
use Rattle.rules.specs.declared.Secrets.{Secrets}
use Rattle.rules.specs.declared.Position.{Position}
use Rattle.rules.specs.declared.Played.{Played}
use Rattle.rules.specs.Lent.{bit_bytes, work_room}
use Rattle.rules.specs.Opening.{count_shown, is_open}
use Rattle.rules.specs.Clicks.{Desk, Play, desk, done}
use Rattle.rules.specs.Lawful.{shows}
use Rattle.cells.specs.Ground.{Fitting, Zeros}

-- ---- what it may rely on ---------------------------------------------------------------------------------------------------------------

-- the boards fit, and the work is lent as zeros
pub record Laid (B : List ℤ) (shown work : List ℕ) (R C : ℕ) : Type 0 where
  pub fits : Fitting B shown work R C
  pub zeros : Zeros (work_room (R * C)) work

-- the cells that show 10
abbrev pub closed_in : List ℕ → ℕ
closed_in shown = count_shown (shows 10) shown

-- the cells that show 0 to 8
abbrev pub open_in : List ℕ → ℕ
open_in shown = count_shown is_open shown

-- a count of opened cells went on from n as the open cells did
pub record Ticked (n : ℕ) (shown : List ℕ) (n' : ℕ) (shown' : List ℕ) : Type 0 where
  pub counted : n' + open_in shown ≡ n + open_in shown'

-- room for what chords and passes add, against the cells still closed: a flag or a chord leaves one fewer at least, and a chord solves at most 16
pub record PassRoom (c : Counts) (k : Secrets) (shown : List ℕ) : Type 0 where
  pub flag : c.flag + closed_in shown ≤ 65535
  pub solved : k.solved_chord + 16 * closed_in shown ≤ 1000000

-- room in every count for what one event may add, and a flag for each cell that may be taken back
pub record Room (c : Counts) (k : Secrets) (shown : List ℕ) : Type 0 where
  pub pass : PassRoom c k shown
  pub left : c.left ≤ 70000
  pub right : c.right ≤ 70000
  pub double : c.double ≤ 70000
  pub lce : c.lce ≤ 70000
  pub dce : c.dce ≤ 70000
  pub rce : k.rce ≤ 70000
  pub solved_left : k.solved_left ≤ 1000000
  pub flagged : (i : ℕ) → get_or shown i 0 ≡ 11 → 1 ≤ c.flag

-- each cell has its bit
abbrev pub Bytes : Settings → List ℕ → Type 0
Bytes s bits = length bits ≡ bit_bytes (s.rows * s.columns)

-- the same of a position
abbrev pub LaidAt : List ℤ → Position → List ℕ → List ℕ → Type 0
LaidAt B p shown work = Laid B shown work p.settings.rows p.settings.columns

abbrev pub PassRoomAt : Position → List ℕ → Type 0
PassRoomAt p shown = PassRoom p.counts p.secrets shown

abbrev pub RoomAt : Position → List ℕ → Type 0
RoomAt p shown = Room p.counts p.secrets shown

-- what a pass relies on
pub record Prepared (B : List ℤ) (d : Desk) (work : List ℕ) : Type 0 where
  pub laid : LaidAt B d.position d.shown work
  pub bytes : Bytes d.position.settings d.bits
  pub room : PassRoomAt d.position d.shown

-- THE record of what an event relies on. Game, mouse, middle flag and pre-flags are not read
pub record Able (B : List ℤ) (s : Settings) (c : Counts) (k : Secrets) (shown bits work : List ℕ) : Type 0 where
  pub laid : Laid B shown work s.rows s.columns
  pub bytes : Bytes s bits
  pub room : Room c k shown

abbrev pub AbleAt : List ℤ → Position → List ℕ → List ℕ → List ℕ → Type 0
AbleAt B p shown bits work = Able B p.settings p.counts p.secrets shown bits work

-- ---- what it leaves --------------------------------------------------------------------------------------------------------------------

-- what came out is what was due, and the work came back as it was lent
pub record Leaves {A : Type 0} (got due : A) (work work' : List ℕ) : Type 0 where
  pub outcome : got ≡ due
  pub same : work' ≡ work

-- what an action of the code answered, with the boards that it left
abbrev pub play : Played → List ℕ → List ℕ → Play
play r shown bits = done r.answer (desk r.position shown bits)

-- an action at a desk
abbrev pub Plays : (Desk → Play) → Position → List ℕ → List ℕ → List ℕ → Played → List ℕ → List ℕ → List ℕ → Type 0
Plays f p shown bits work r shown' bits' work' = Leaves (play r shown' bits') (f (desk p shown bits)) work work'

-- an action that leaves the bits alone, whatever they are
abbrev pub Acts : (Desk → Play) → Position → List ℕ → List ℕ → Played → List ℕ → List ℕ → Type 0
Acts f p shown work r shown' work' = (bits : List ℕ) → Plays f p shown bits work r shown' bits work'
