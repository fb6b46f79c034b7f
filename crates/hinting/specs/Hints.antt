-- What is promised of a hint: it is the first cell offered, it is none exactly if no cell is, and it is safe where every flag is on a mine.
-- proofs/Hints.antt and proofs/Safety.antt prove it.
use Rattle.std.specs.Prelude.{◌≡◌, true, false, List, ℕ, ◌*◌, ◌<◌, ◌≤◌, ℤ, length, get_or}
use Rattle.rules.specs.Grid.{cell_of, neighbour}
use Rattle.rules.specs.Board.{face_at, mine_at, board_check}
use Rattle.rules.specs.Clicks.{Desk, rows_of, columns_of, chord_is_useful}
use Rattle.rules.specs.Calls.{position_check}
use Rattle.rules.specs.Picture.{shown_refusal}
use Rattle.harmless.specs.Harmless.{FlagsOnMines}
use Rattle.rules.specs.declared.Hint.{Hint}
use Rattle.rules.specs.declared.Hint.TheVariants.{Cell, Nothing}
use Rattle.rules.specs.Trainer.{justifies, offered, cell_by, hint_of}

-- a question that is not refused
abbrev pub Fine : ℕ → ℕ → List ℕ → Type 0
Fine R C shown = shown_refusal R C shown true ≡ 0

-- cell i is the first offered, and place k around it the first that justifies it
pub record First (R C : ℕ) (shown : List ℕ) (i k : ℕ) : Type 0 where
  pub on : i < R * C
  pub offer : offered R C shown i ≡ true
  pub before : (j : ℕ) → j < i → offered R C shown j ≡ false
  pub place : k < 8
  pub number : justifies R C shown (neighbour R C i k) ≡ true
  pub sooner : (j : ℕ) → j < k → justifies R C shown (neighbour R C i j) ≡ false

-- what a hint's cell and its number's cell come from
pub record Found (R C : ℕ) (shown : List ℕ) (h : Hint) : Type 0 where
  pub cell : ℕ
  pub place : ℕ
  pub first : First R C shown cell place
  pub same : h ≡ cell_by C cell (neighbour R C cell place)

-- hint-first: the hint gives a cell exactly where some cell is offered: the first, by the first number that justifies it
pub record HintFirst : Type 0 where
  pub gives : (R C : ℕ) (shown : List ℕ) (i k : ℕ) → Fine R C shown → First R C shown i k → hint_of R C shown ≡ cell_by C i (neighbour R C i k)
  pub given : (R C : ℕ) (shown : List ℕ) (i : ℕ) → Fine R C shown → i < R * C → offered R C shown i ≡ true → Found R C shown (hint_of R C shown)
  pub only : (R C : ℕ) (shown : List ℕ) (r c x y : ℕ) → hint_of R C shown ≡ Cell r c x y → Fine R C shown × Found R C shown (Cell r c x y)

-- hint-none: nothing to show exactly if no cell is offered
pub record HintNone : Type 0 where
  pub nothing : (R C : ℕ) (shown : List ℕ) → Fine R C shown → ((i : ℕ) → i < R * C → offered R C shown i ≡ false) → hint_of R C shown ≡ Nothing
  pub none : (R C : ℕ) (shown : List ℕ) → hint_of R C shown ≡ Nothing → Fine R C shown × ((i : ℕ) → i < R * C → offered R C shown i ≡ false)

-- the number's chord would open the cell; so it is no 8
abbrev pub HintChords : Type 0
HintChords = (R C : ℕ) (shown : List ℕ) (i k : ℕ) → Fine R C shown → First R C shown i k → chord_is_useful R C shown (neighbour R C i k) ≡ true

-- ---- safe ------------------------------------------------------------------------------------------------------------------------------

-- open cells show their numbers
abbrev pub ShowsNumbers : ℕ → ℕ → List ℤ → List ℕ → Type 0
ShowsNumbers R C B shown = (i : ℕ) → i < R * C → get_or shown i 0 ≤ 8 → get_or shown i 0 ≡ face_at B i

-- hint-safe: on an accepted board whose open cells show their numbers, with every flag on a mine, each cell offered is safe, and the hint's too;
-- so it is at every position that the position check accepts
pub record HintSafe : Type 0 where
  pub offers : (R C : ℕ) (B : List ℤ) (shown : List ℕ) → board_check R C B ≡ 0 → length shown ≡ R * C → ShowsNumbers R C B shown → FlagsOnMines B shown
      → (i : ℕ) → i < R * C → offered R C shown i ≡ true → mine_at B i ≡ false
  pub gives : (R C : ℕ) (B : List ℤ) (shown : List ℕ) → board_check R C B ≡ 0 → ShowsNumbers R C B shown → FlagsOnMines B shown
      → (r c x y : ℕ) → hint_of R C shown ≡ Cell r c x y → mine_at B (cell_of C r c) ≡ false
  pub lawful : (B : List ℤ) (d : Desk) → position_check B d ≡ 0 → FlagsOnMines B d.shown
      → (r c x y : ℕ) → hint_of (rows_of d) (columns_of d) d.shown ≡ Cell r c x y → mine_at B (cell_of (columns_of d) r c) ≡ false

-- where a flag stands on a safe cell it is not so: 1×3, 10 1 11, and the mine under the 10 is given
pub record HintMisled : Type 0 where
  pub mines : List ℤ
  pub shown : List ℕ
  pub board : board_check 1 3 mines ≡ 0
  pub numbers : ShowsNumbers 1 3 mines shown
  pub gives : hint_of 1 3 shown ≡ Cell 0 0 0 1
  pub mine : mine_at mines (cell_of 3 0 0) ≡ true
