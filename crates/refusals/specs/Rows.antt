-- The table of refusals: numbers in their order, each with the test that it is given for failing, and for each call the rows that it tests.
use Rattle.std.specs.Prelude.{◌≡◌, Bool, true, false, not, ◌&&◌, List, [], ◌∷◌, ◌++◌, ◌⊎◌, ℕ, ◌*◌, ◌%◌, eqb, leb, ltb, length, ℤ}
use Rattle.rules.specs.declared.Settings.{Settings}
use Rattle.rules.specs.declared.Pointer.{Pointer}
use Rattle.rules.specs.declared.Event.{Event}
use Rattle.rules.specs.declared.GameState.{GameState}
use Rattle.rules.specs.declared.GameState.TheVariants.{Ready, Playing, Win, Loss, PreFlaging}
use Rattle.rules.specs.Words.{unless, every}
use Rattle.rules.specs.Grid.{size_ok}
use Rattle.rules.specs.Board.{values_ok, numbers_ok, some_safe, mines_in, mine_ok}
use Rattle.rules.specs.Lent.{work_room}
use Rattle.rules.specs.Clicks.{Desk}
use Rattle.rules.specs.Mouse.{rules_ok}
use Rattle.rules.specs.Step.{mouse, bad_pre_flag, is_unknown, errs_playing, errs_pre_flaging, plain_of}
use Rattle.rules.specs.Lawful.{shown_lawful, bits_lawful, counts_lawful, states_lawful}
use Rattle.rules.specs.Calls.{boards_fit, work_fits, mode_ok}

-- a number, and the test whose failing it is given for
pub record Row : Type 0 where
  pub number : ℕ
  pub test : Bool

abbrev pub row : ℕ → Bool → Row
row n t = record { number = n; test = t }

-- the number of the first row whose test fails, or 0
unfoldable pub first : List Row → ℕ
first [] = 0
first (t ∷ ts) = unless t.number t.test (first ts)

-- n is given exactly when its own test fails and no earlier row applies; 0 when no row does
abbrev pub Given : List Row → ℕ → Type 0
Given [] n = n ≡ 0
Given (t ∷ ts) n = ((t.test ≡ false) × (n ≡ t.number)) ⊎ ((t.test ≡ true) × Given ts n)

-- 20 to 24, where `fit` says that every buffer has the right length
abbrev pub board_rows : ℕ → ℕ → Bool → List ℤ → List Row
board_rows R C fit B = row 20 (size_ok R C) ∷ row 21 fit ∷ row 22 (values_ok B) ∷ row 23 (numbers_ok B R C) ∷ row 24 (some_safe B) ∷ []

-- 20 to 25
abbrev pub settings_rows : Settings → Bool → List ℤ → List Row
settings_rows s fit B = board_rows s.rows s.columns fit B ++ (row 25 (mode_ok s.mode) ∷ [])

-- 261 to 264
abbrev pub lawful_rows : List ℤ → Desk → List Row
lawful_rows B d = row 261 (shown_lawful B d) ∷ row 262 (bits_lawful B d) ∷ row 263 (counts_lawful B d) ∷ row 264 (states_lawful B d) ∷ []

-- 20 to 264
abbrev pub position_rows : Bool → List ℤ → Desk → List Row
position_rows fit B d = settings_rows d.position.settings fit B ++ lawful_rows B d

-- the rows of each call
abbrev pub check_rows : List ℤ → Desk → List Row
check_rows B d = position_rows (boards_fit d.position.settings B d.shown d.bits) B d

abbrev pub lent_rows_of : List ℤ → Desk → List ℕ → List Row
lent_rows_of B d work = position_rows (boards_fit d.position.settings B d.shown d.bits && work_fits d.position.settings work) B d

abbrev pub flow_rows : List ℤ → List ℕ → Desk → List ℕ → List Row
flow_rows B events d work =
    position_rows (boards_fit d.position.settings B d.shown d.bits && (work_fits d.position.settings work && eqb (length events % 3) 0)) B d

abbrev pub setup_rows : Settings → List ℤ → List ℕ → List ℕ → List Row
setup_rows s B shown bits = settings_rows s (boards_fit s B shown bits) B ++ (row 45 (rules_ok s.rules) ∷ [])

abbrev pub total_rows : ℕ → ℕ → List ℤ → List ℕ → List Row
total_rows R C B work = board_rows R C (eqb (length B) (R * C) && leb (work_room (R * C)) (length work)) B

abbrev pub numbering_rows : ℕ → ℕ → List ℕ → List ℤ → List Row
numbering_rows R C ms B =
    row 20 (size_ok R C) ∷ row 21 (eqb (length B) (R * C) && eqb (length ms % 2) 0) ∷ row 42 (every (mine_ok R C ms) (mines_in ms))
    ∷ row 24 (ltb (mines_in ms) (R * C)) ∷ []

-- resolve's rows after these and 30
abbrev pub resolve_rows : Desk → List Row
resolve_rows d = row 31 (ltb d.position.events 65535) ∷ []

-- 32 in Ready and PreFlaging
abbrev pub pre_flag_ok : GameState → Event → Desk → Bool
pre_flag_ok Ready e d = not (bad_pre_flag d e)
pre_flag_ok PreFlaging e d = not (bad_pre_flag d e)
pre_flag_ok Playing e d = true
pre_flag_ok Win e d = true
pre_flag_ok Loss e d = true

-- 33 where the Rust answers Err, in no state that has ended
abbrev pub code_ok : GameState → Event → Desk → Bool
code_ok Ready e d = not (is_unknown e)
code_ok PreFlaging e d = not (errs_pre_flaging (mouse d) e)
code_ok Playing e d = not (errs_playing (mouse d) e)
code_ok Win e d = true
code_ok Loss e d = true

-- 31 to 33, at a pointer that is a cell or off the board; 30 comes before them, for one that is neither
abbrev pub event_rows : ℕ → Pointer → Desk → List Row
event_rows code x d =
    row 31 (ltb d.position.events 65535) ∷ row 32 (pre_flag_ok d.position.game (plain_of code x d) d)
    ∷ row 33 (code_ok d.position.game (plain_of code x d) d) ∷ []
