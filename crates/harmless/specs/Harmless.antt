-- The automatic passes never lose by themselves, the statement. proofs/Harmless.antt proves it.
-- Desk d is what the hand's own action leaves, before the passes; desk e is what they leave.
use Rattle.std.specs.Prelude.{◌≡◌, true, false, List, ℕ, ◌<◌, length, get_or, ℤ}
use Rattle.rules.specs.declared.GameState.{GameState}
use Rattle.rules.specs.declared.GameState.TheVariants.{Ready, Playing, Win, Loss, PreFlaging}
use Rattle.rules.specs.States.{is_loss}
use Rattle.rules.specs.Board.{face_at, mine_at, numbers_ok}
use Rattle.rules.specs.Clicks.{Desk, rows_of, columns_of, cells_of}
use Rattle.rules.specs.Passes.{flag_pass, chord_pass, both_pass, mode_both, passes_after_flag, passes_after_chord}
use Rattle.rules.specs.Lawful.{cell_lawful}
use Rattle.rules.specs.Calls.{position_check}
use Rattle.cells.specs.Ground.{Mined}
use Rattle.keep.specs.Kept.{Kept}

-- ---- what is asked -----------------------------------------------------------------------------------------------------------------------

-- 20 to 22: a mine board of its size, and a shown board as large
abbrev pub Board : List ℤ → Desk → Type 0
Board B d = Mined B (rows_of d) (columns_of d)

abbrev pub Size : Desk → Type 0
Size d = length d.shown ≡ cells_of d

-- 23: every number is right
abbrev pub Numbers : List ℤ → Desk → Type 0
Numbers B d = numbers_ok B (rows_of d) (columns_of d) ≡ true

-- 261: every cell shows what it may
abbrev pub Cells : List ℤ → Desk → Type 0
Cells B d = (i : ℕ) → i < length d.shown → cell_lawful d.position.settings.question (is_loss d.position.game) (face_at B i) (get_or d.shown i 0) ≡ true

-- of an accepted board and a lawful desk no more is asked than this: when the passes run an event is not through with bits and counts
pub record Fair (B : List ℤ) (d : Desk) : Type 0 where
  pub board : Board B d
  pub size : Size d
  pub numbers : Numbers B d
  pub cells : Cells B d

-- every cell showing 11 is a mine
abbrev pub FlagsOnMines : List ℤ → List ℕ → Type 0
FlagsOnMines B shown = (i : ℕ) → get_or shown i 0 ≡ 11 → mine_at B i ≡ true

-- a right game: Playing, and every flag on a mine
pub record Right (B : List ℤ) (d : Desk) : Type 0 where
  pub playing : d.position.game ≡ Playing
  pub flags : FlagsOnMines B d.shown

-- no question mark stands on the board: so it is wherever question marks are off
abbrev pub NoQuestions : Desk → Type 0
NoQuestions d = (i : ℕ) → get_or d.shown i 0 ≡ 17 → ⊥

-- ---- what is promised --------------------------------------------------------------------------------------------------------------------

-- from what cell i showed to what it shows: the same; from 10 to 11, on a mine; from 10 to its own number, on a safe cell
pub data Spared (B : List ℤ) (i x y : ℕ) : Type 0 where
  stays : y ≡ x → Spared B i x y
  flags : x ≡ 10 → y ≡ 11 → mine_at B i ≡ true → Spared B i x y
  opens : x ≡ 10 → y ≡ face_at B i → mine_at B i ≡ false → Spared B i x y

abbrev pub AllSpared : List ℤ → List ℕ → List ℕ → Type 0
AllSpared B shown shown' = (i : ℕ) → Spared B i (get_or shown i 0) (get_or shown' i 0)

-- Playing or Win
abbrev pub NotLost : GameState → Type 0
NotLost Ready = ⊥
NotLost Playing = Unit {0}
NotLost Win = Unit {0}
NotLost Loss = ⊥
NotLost PreFlaging = ⊥

-- what is done between desk d and desk e flags only mines, opens only safe cells, and does not lose
pub record Harmless (B : List ℤ) (d e : Desk) : Type 0 where
  pub cells : AllSpared B d.shown e.shown
  pub flags : FlagsOnMines B e.shown
  pub game : NotLost e.position.game

-- ---- the theorem -------------------------------------------------------------------------------------------------------------------------

-- each pass, and what follows a flag and a chord by hand in every mode; a chord pass reads no question mark
pub record PassesHarmless : Type 0 where
  pub flag_pass_lem : (B : List ℤ) (d : Desk) → Fair B d → Right B d → NoQuestions d → Harmless B d (flag_pass B d)
  pub chord_pass_lem : (B : List ℤ) (d : Desk) → Fair B d → Right B d → Harmless B d (chord_pass B d).desk
  pub both_pass_lem : (B : List ℤ) (d : Desk) → Fair B d → Right B d → NoQuestions d → Harmless B d (both_pass B d)
  pub after_flag : (B : List ℤ) (d : Desk) → Fair B d → Right B d → NoQuestions d → Harmless B d (passes_after_flag B d)
  pub after_chord : (B : List ℤ) (d : Desk) → Fair B d → Right B d → (mode_both d.position.settings.mode ≡ true → NoQuestions d)
      → Harmless B d (passes_after_chord B d)
  -- the flag pass flags only mines wherever the flags stand
  pub flag_pass_cells : (B : List ℤ) (d : Desk) → Fair B d → d.position.game ≡ Playing → NoQuestions d → AllSpared B d.shown (flag_pass B d).shown
  -- what is asked holds of every lawful desk, also amid an event, when counts of at most n are not yet counted against the events;
  -- and question marks that are off stand nowhere
  pub lawful : (B : List ℤ) (d : Desk) → position_check B d ≡ 0 → Fair B d
  pub amid : (n : ℕ) (B : List ℤ) (d : Desk) → Kept n B d → Fair B d
  pub off : (B : List ℤ) (d : Desk) → Fair B d → d.position.settings.question ≡ false → NoQuestions d

-- in the request's words: an accepted board and a lawful desk after the hand's own action; Playing, question marks off, every flag on a mine
abbrev pub NeverLoses : Type 0
NeverLoses =
    (n : ℕ) (B : List ℤ) (d : Desk) → Kept n B d → d.position.game ≡ Playing → d.position.settings.question ≡ false → FlagsOnMines B d.shown
    → Harmless B d (passes_after_flag B d) × Harmless B d (passes_after_chord B d)
