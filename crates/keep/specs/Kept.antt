-- The lawful position as named facts, carried by parts: `Ground` is what no event changes; `Sound` is indexed by the parts that it reads, so that a
-- change of mouse, middle flag, pre-flags or live game state leaves it the same. n bounds the counts: the accepted events.
use Rattle.std.specs.Prelude.{◌≡◌, Bool, true, false, List, [], ◌∷◌, ℕ, ◌+◌, ◌*◌, ◌<◌, ◌≤◌, length, get_or, ℤ}
use Rattle.rules.specs.declared.Settings.{Settings}
use Rattle.rules.specs.declared.Counts.{Counts}
use Rattle.rules.specs.declared.Secrets.{Secrets}
use Rattle.rules.specs.declared.Pointer.{Pointer}
use Rattle.rules.specs.declared.Pointer.TheVariants.{Cell, Off}
use Rattle.rules.specs.declared.Event.{Event}
use Rattle.rules.specs.declared.Event.TheVariants.{Lc, Lr, Rc, Rr, Mv, Mc, Mr, Cc, Pf, Unknown}
use Rattle.rules.specs.declared.GameState.{GameState}
use Rattle.rules.specs.declared.GameState.TheVariants.{Ready, Playing, Win, Loss, PreFlaging}
use Rattle.rules.specs.declared.MouseState.{MouseState}
use Rattle.rules.specs.States.{is_loss, is_not_flag}
use Rattle.rules.specs.Board.{face_at, mine_at, values_ok, numbers_ok, some_safe}
use Rattle.rules.specs.Lent.{bit_at, bit_bytes}
use Rattle.rules.specs.Opening.{count_shown, is_open}
use Rattle.rules.specs.Clicks.{Desk, Play}
use Rattle.rules.specs.Lawful.{shows, is_flag, is_open_or_hit, cell_lawful, is_won, unopened_in}
use Rattle.cells.specs.Ground.{Sized, Mined}

-- what the tests 20 to 24 gave
pub record Accepted (R C : ℕ) (fit : Bool) (B : List ℤ) : Type 0 where
  pub sized : Sized R C
  pub fits : fit ≡ true
  pub values : values_ok B ≡ true
  pub numbers : numbers_ok B R C ≡ true
  pub safe : some_safe B ≡ true

-- the size, the mine board and the lengths of what is lent
pub record Ground (B : List ℤ) (s : Settings) (shown bits : List ℕ) : Type 0 where
  pub mined : Mined B s.rows s.columns
  pub numbers : numbers_ok B s.rows s.columns ≡ true
  pub board : length shown ≡ s.rows * s.columns
  pub room : length bits ≡ bit_bytes (s.rows * s.columns)

-- the counts that are each at most the accepted events, but for the pre-flag count
pub record Bounded (n : ℕ) (c : Counts) (k : Secrets) : Type 0 where
  pub left : c.left ≤ n
  pub right : c.right ≤ n
  pub lce : c.lce ≤ n
  pub dce : c.dce ≤ n
  pub rce : k.rce ≤ n

-- shown values, bits and counts
pub record Sound (n : ℕ) (B : List ℤ) (loss : Bool) (s : Settings) (c : Counts) (k : Secrets) (shown bits : List ℕ) : Type 0 where
  pub ground : Ground B s shown bits
  pub bounded : Bounded n c k
  pub double : c.double ≤ n + count_shown is_open_or_hit shown
  pub solved : k.solved_left + k.solved_chord ≤ count_shown is_open shown
  pub flag : c.flag ≡ count_shown is_flag shown
  pub unopened : c.unopened ≡ unopened_in B shown
  pub wrong : 1 ≤ count_shown (shows 14) shown → 1 ≤ count_shown (shows 15) shown
  pub cells : (i : ℕ) → i < length shown → cell_lawful s.question loss (face_at B i) (get_or shown i 0) ≡ true
  pub mines : (m : ℕ) → bit_at bits m ≡ true → mine_at B m ≡ true

-- what Ready asks
pub record Untouched (m : MouseState) (pre : ℕ) (shown : List ℕ) : Type 0 where
  pub unflagged : count_shown (shows 11) shown ≡ 0
  pub unpreflagged : pre ≡ 0
  pub unheld : is_not_flag m ≡ false
  pub shut : count_shown is_open shown ≡ 0

-- what PreFlaging asks
pub record Preflagged (pre : ℕ) (shown : List ℕ) : Type 0 where
  pub flags : count_shown (shows 11) shown ≤ pre
  pub shut : count_shown is_open shown ≡ 0

abbrev pub Phase : GameState → MouseState → ℕ → List ℤ → List ℕ → Type 0
Phase Ready m pre B shown = Untouched m pre shown
Phase PreFlaging m pre B shown = Preflagged pre shown
Phase Playing m pre B shown = is_won B shown ≡ false
Phase Win m pre B shown = is_won B shown ≡ true
Phase Loss m pre B shown = Unit {0}

-- the parts of a desk that `Sound` and `Phase` read
abbrev pub SoundAt : ℕ → List ℤ → Desk → Type 0
SoundAt n B d = Sound n B (is_loss d.position.game) d.position.settings d.position.counts d.position.secrets d.shown d.bits

abbrev pub PhaseAt : List ℤ → Desk → Type 0
PhaseAt B d = Phase d.position.game d.position.mouse d.position.preflags B d.shown

pub record Kept (n : ℕ) (B : List ℤ) (d : Desk) : Type 0 where
  pub sound : SoundAt n B d
  pub preflags : d.position.preflags ≤ n
  pub held : is_not_flag d.position.mouse ≡ true → 1 ≤ d.position.counts.right
  pub phase : PhaseAt B d

-- in Loss a 15 is shown: so it is after a click or a pass that lost
abbrev pub Told : Desk → Type 0
Told d = d.position.game ≡ Loss → 1 ≤ count_shown (shows 15) d.shown

-- kept, with the settings s, and told
pub record Live (n : ℕ) (B : List ℤ) (s : Settings) (d : Desk) : Type 0 where
  pub kept : Kept n B d
  pub settings : d.position.settings ≡ s
  pub told : Told d

-- a lawful desk: kept at its own events, which are at most 65,535
pub record LawfulAt (B : List ℤ) (d : Desk) : Type 0 where
  pub kept : Kept d.position.events B d
  pub few : d.position.events ≤ 65535

-- desk e after desk d: lawful, with the same settings, and told where d was
pub record Follows (B : List ℤ) (d e : Desk) : Type 0 where
  pub lawful : LawfulAt B e
  pub settings : e.position.settings ≡ d.position.settings
  pub told : Told d → Told e

-- every play of a row leaves a lawful desk
abbrev pub AllLawful : List ℤ → List Play → Type 0
AllLawful B [] = Unit {0}
AllLawful B (o ∷ os) = LawfulAt B o.desk × AllLawful B os

-- the pointer is on the board or off it
abbrev pub Inside : Settings → Pointer → Type 0
Inside s (Cell r c) = (r < s.rows) × (c < s.columns)
Inside s Off = Unit {0}

abbrev pub InsideOf : Settings → Event → Type 0
InsideOf s (Lc x) = Inside s x
InsideOf s (Lr x) = Inside s x
InsideOf s (Rc x) = Inside s x
InsideOf s (Rr x) = Inside s x
InsideOf s (Mv x) = Inside s x
InsideOf s (Mc x) = Inside s x
InsideOf s (Mr x) = Inside s x
InsideOf s (Cc x) = Inside s x
InsideOf s (Pf x) = Inside s x
InsideOf s (Unknown code x) = Inside s x
