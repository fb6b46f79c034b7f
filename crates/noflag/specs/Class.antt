-- What the class is to the full game, and what its games keep: no flag was ever there, and nothing of one is counted.
-- proofs/Same.antt, proofs/Clean.antt and proofs/Lawful.antt prove it.
use Rattle.std.specs.Prelude.{◌≡◌, Bool, true, false, List, [], ◌∷◌, ◌⊎◌, ℕ, ◌<◌, ltb, length, get_or, ℤ, Option, Some, None}
use Rattle.rules.specs.declared.Pointer.{Pointer}
use Rattle.rules.specs.declared.Settings.{Settings}
use Rattle.rules.specs.declared.MouseState.{MouseState}
use Rattle.rules.specs.declared.MouseState.TheVariants.{UpUp, DownUp}
use Rattle.rules.specs.Words.{unless}
use Rattle.rules.specs.Board.{board_check}
use Rattle.rules.specs.Lent.{bit_at}
use Rattle.rules.specs.Clicks.{Desk, Play, done}
use Rattle.rules.specs.Passes.{add_double, chording_click}
use Rattle.rules.specs.Step.{pointer_of, step_on}
use Rattle.rules.specs.Calls.{fresh_desk, position_check}
use Rattle.keep.specs.Kept.{LawfulAt, Follows}
use Rattle.secrecy.specs.Demand.{last_desk}
use Rattle.rules.specs.Noflag.{forbidden, class_step_on}

-- ---- one event -------------------------------------------------------------------------------------------------------------------------

-- an event that is not forbidden answers and leaves what it does in the full game, at every desk and board
abbrev pub ClassSame : Type 0
ClassSame = (B : List ℤ) (code r c : ℕ) (d : Desk) → forbidden code ≡ false → class_step_on B code r c d ≡ step_on B code r c d

-- what a forbidden one answers: 30, else 31, else 34, by the pointer and the events alone
abbrev pub forbids : Bool → Option Pointer → ℕ
forbids few (Some x) = unless 31 few 34
forbids few None = 30

-- and it leaves the desk, in every game state
abbrev pub ClassForbids : Type 0
ClassForbids =
    (B : List ℤ) (code r c : ℕ) (d : Desk) → forbidden code ≡ true
    → class_step_on B code r c d ≡ done (forbids (ltb d.position.events 65535) (pointer_of d.position.settings r c)) d

-- the lawful position is kept with its settings, and 20 to 264 pass again
pub record ClassLawful : Type 0 where
  pub follows : (B : List ℤ) (code r c : ℕ) (d : Desk) → LawfulAt B d → Follows B d (class_step_on B code r c d).desk
  pub check : (B : List ℤ) (code r c : ℕ) (d : Desk) → position_check B d ≡ 0 → position_check B (class_step_on B code r c d).desk ≡ 0

-- ---- a game ----------------------------------------------------------------------------------------------------------------------------

-- the plays of a row of events: a refused one gives its number and leaves the desk, and the next one is played on it
unfoldable pub class_on : List ℤ → List ℕ → Desk → List Play
class_on B [] d = []
class_on B (code ∷ []) d = []
class_on B (code ∷ r ∷ []) d = []
class_on B (code ∷ r ∷ c ∷ es) d =
    let o = class_step_on B code r c d in
    o ∷ class_on B es o.desk

-- from the class's fresh start
abbrev pub class_game : Settings → List ℕ → List ℤ → List Play
class_game s events B = class_on B events (fresh_desk s B)

abbrev pub class_end : Settings → List ℕ → List ℤ → Desk
class_end s events B = last_desk (fresh_desk s B) (class_game s events B)

-- the right button is up
abbrev pub RightUp : MouseState → Type 0
RightUp m = (m ≡ UpUp) ⊎ (m ≡ DownUp)

-- no cell shows 11, 14 or 17; flag, rce, right and the pre-flag count are 0; and so are every bit, dce and solved_chord
pub record Clean (d : Desk) : Type 0 where
  pub no_flag : (i : ℕ) → get_or d.shown i 0 ≡ 11 → ⊥
  pub no_wrong : (i : ℕ) → get_or d.shown i 0 ≡ 14 → ⊥
  pub no_question : (i : ℕ) → get_or d.shown i 0 ≡ 17 → ⊥
  pub flag : d.position.counts.flag ≡ 0
  pub rce : d.position.secrets.rce ≡ 0
  pub right : d.position.counts.right ≡ 0
  pub preflags : d.position.preflags ≡ 0
  pub bits : (n : ℕ) → bit_at d.bits n ≡ false
  pub dce : d.position.counts.dce ≡ 0
  pub solved_chord_lem : d.position.secrets.solved_chord ≡ 0
  pub mouse : RightUp d.position.mouse
  -- a chord by the middle button counts double and opens nothing
  pub chords : (B : List ℤ) (i : ℕ) → i < length d.shown → chording_click B i d ≡ done 0 (add_double d)

-- of every play of a row
abbrev pub AllClean : List Play → Type 0
AllClean [] = Unit {0}
AllClean (o ∷ os) = Clean o.desk × AllClean os

-- from its fresh start on an accepted board in mode 0, with question marks on or off, by either rules, whatever the events are
abbrev pub ClassClean : Type 0
ClassClean =
    (s : Settings) (B : List ℤ) (events : List ℕ) → board_check s.rows s.columns B ≡ 0 → s.mode ≡ 0
    → AllClean (class_game s events B) × Clean (class_end s events B)
