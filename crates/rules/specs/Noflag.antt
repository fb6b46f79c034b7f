-- The no-flag class: some leagues forbid the right button. A profile with its own setup, step and book reading, in mode 0 only; all else is the full game's.
use Rattle.std.specs.Prelude.{◌≡◌, Bool, not, ◌&&◌, ◌||◌, List, [], ◌∷◌, ◌++◌, ℕ, ltb, leb, eqb, ℤ, Option, Some, None}
use Rattle.rules.specs.declared.Position.{Position}
use Rattle.rules.specs.declared.Settings.{Settings}
use Rattle.rules.specs.declared.Answer.{Answer}
use Rattle.rules.specs.declared.Book.{Book}
use Rattle.rules.specs.declared.Pointer.{Pointer}
use Rattle.rules.specs.Words.{pick, unless}
use Rattle.rules.specs.States.{fresh_of}
use Rattle.rules.specs.Grid.{size_ok}
use Rattle.rules.specs.Board.{board_refusal}
use Rattle.rules.specs.Clicks.{Desk, Play, desk, done}
use Rattle.rules.specs.Mouse.{rules_ok}
use Rattle.rules.specs.Step.{pointer_of, event_refusal, plain_of, play_at}
use Rattle.rules.specs.Lawful.{lawful_refusal}
use Rattle.rules.specs.Calls.{Outcome, SetUp, boards_fit, work_fits, set_up, setup_by, outcome, refused_at, played, last_play}
use Rattle.rules.specs.Book.{byte_at, or_else, reaches, mines_section, rules_at, settings_at, mine_count_at, events_end, book_ends, events_of}
use Rattle.rules.specs.Printout.{spaced, word_line, word_refused, word_at_place, game_line, event_lines, end_lines, book_board, book_desk}

-- ---- one event -------------------------------------------------------------------------------------------------------------------------

-- `rc`, `rr`, `cc`, `pf` and `r` are refused in every state; chords by the middle button stay
unfoldable pub forbidden : ℕ → Bool
forbidden code = eqb code 2 || (eqb code 3 || (eqb code 7 || (eqb code 8 || eqb code 10)))

-- 34: a forbidden event, after 31 and before 32
unfoldable pub class_refusal_at : ℕ → Pointer → Desk → ℕ
class_refusal_at code x d =
    unless 31 (ltb d.position.events 65535)
    (unless 34 (not (forbidden code))
    (event_refusal d.position.game (plain_of code x d) d))

unfoldable pub class_step_at : List ℤ → ℕ → Pointer → Desk → Play
class_step_at B code x d = pick (eqb (class_refusal_at code x d) 0) (play_at B code x d) (done (class_refusal_at code x d) d)

unfoldable pub class_step_by : List ℤ → ℕ → Option Pointer → Desk → Play
class_step_by B code (Some x) d = class_step_at B code x d
class_step_by B code None d = done 30 d

-- THE event of the class at a desk whose board and position are in order: 30, 31, 34, 32, 33, or it is resolved and played
unfoldable pub class_step_on : List ℤ → ℕ → ℕ → ℕ → Desk → Play
class_step_on B code r c d = class_step_by B code (pointer_of d.position.settings r c) d

-- ---- setup and step --------------------------------------------------------------------------------------------------------------------

-- 20 to 24, then 25 unless the mode is 0
unfoldable pub class_settings_refusal : Settings → Bool → List ℤ → ℕ → ℕ
class_settings_refusal s fit B rest =
    pick (eqb (board_refusal s.rows s.columns fit B) 0)
    (unless 25 (eqb s.mode 0) rest)
    (board_refusal s.rows s.columns fit B)

-- setup: 20 to 25, then 45; the fresh desk
unfoldable pub class_setup_refusal : Settings → List ℤ → List ℕ → List ℕ → ℕ
class_setup_refusal s B shown bits = class_settings_refusal s (boards_fit s B shown bits) B (unless 45 (rules_ok s.rules) 0)

unfoldable pub class_setup_of : Settings → List ℤ → List ℕ → List ℕ → SetUp
class_setup_of s B shown bits = setup_by (class_setup_refusal s B shown bits) B (fresh_of s 0) s shown bits

-- step: 20 to 264, with work; then the event, `l` and `m` too, in one call
unfoldable pub class_lent_refusal : List ℤ → Desk → List ℕ → ℕ
class_lent_refusal B d work =
    class_settings_refusal d.position.settings
    (boards_fit d.position.settings B d.shown d.bits && work_fits d.position.settings work) B
    (lawful_refusal B d)

unfoldable pub class_step_of : List ℤ → ℕ → ℕ → ℕ → Desk → List ℕ → Outcome
class_step_of B code r c d work =
    pick (eqb (class_lent_refusal B d work) 0)
    (played d.shown (class_step_on B code r c d) work)
    (refused_at B (class_lent_refusal B d work) d work)

-- ---- the game book ---------------------------------------------------------------------------------------------------------------------

-- as a book's settings are read, with 25 at 3 unless the mode is 0
unfoldable pub class_settings_section : List ℕ → Book → Book
class_settings_section s rest =
    reaches s 1
    (or_else 41 0 (eqb (byte_at s 0) 4 || eqb (byte_at s 0) 5)
    (reaches s (mine_count_at s)
    (or_else 41 4 (leb (byte_at s 4) 1)
    (or_else 20 1 (size_ok (byte_at s 1) (byte_at s 2))
    (or_else 25 3 (eqb (byte_at s 3) 0)
    (or_else 45 5 (rules_ok (rules_at s)) rest))))))

unfoldable pub class_sections_of : List ℕ → Book
class_sections_of s = class_settings_section s (mines_section s (mine_count_at s) (settings_at s))

unfoldable pub class_book_of : List ℕ → Book
class_book_of s = book_ends s (events_end (class_sections_of s)) (class_sections_of s)

-- the plays of a row of events, up to the first refused one; forbidden events are judged only when played
unfoldable pub class_plays : List ℤ → List ℕ → Desk → List Play
class_plays B [] d = []
class_plays B (code ∷ []) d = []
class_plays B (code ∷ r ∷ []) d = []
class_plays B (code ∷ r ∷ c ∷ es) d =
    let o = class_step_on B code r c d in
    let rest = class_plays B es o.desk in
    o ∷ pick (leb 20 o.answer) [] rest

abbrev pub class_book_plays : List ℕ → Book → List Play
class_book_plays s b = class_plays (book_board s b) (events_of s b) (book_desk s b)

abbrev pub class_book_end : List ℕ → Book → Desk
class_book_end s b = (last_play (done 0 (book_desk s b)) (class_book_plays s b)).desk

-- its printout, in the lines of the full game's
unfoldable pub class_printout_by : List ℕ → Book → List ℕ
class_printout_by s b =
    pick (eqb b.number 0)
    (game_line b.settings ++ (event_lines 1 (class_book_plays s b) ++ end_lines (book_board s b) (class_book_end s b)))
    (word_refused ++ (spaced (b.number ∷ []) ++ word_line word_at_place (b.place ∷ [])))

unfoldable pub class_printout_of : List ℕ → List ℕ
class_printout_of s = class_printout_by s (class_book_of s)

-- ---- the promises: what a call leaves is its definition --------------------------------------------------------------------------------

abbrev pub ClassSetupIs : Settings → List ℤ → List ℕ → List ℕ → Answer → List ℕ → List ℕ → Type 0
ClassSetupIs s B shown bits r shown' bits' = set_up r shown' bits' ≡ class_setup_of s B shown bits

abbrev pub ClassStepIs : Position → ℕ → ℕ → ℕ → List ℤ → List ℕ → List ℕ → List ℕ → Answer → List ℕ → List ℕ → List ℕ → Type 0
ClassStepIs p code row column B shown bits work r shown' bits' work' =
    outcome r shown' bits' work' ≡ class_step_of B code row column (desk p shown bits) work
