-- The game in document 01's words, before the league's rules 2: resolving and the settings of a book have a text of their own, every other name is
-- that of rules. proofs/Rules.antt holds rules 1 and old books to it.
use Rattle.std.specs.Prelude.{List, [], ◌∷◌, ◌++◌, ℕ, ltb, leb, eqb, ℤ, Option, Some, None}
use Rattle.rules.specs.declared.Pointer.{Pointer}
use Rattle.rules.specs.declared.Event.{Event}
use Rattle.rules.specs.declared.Book.{Book}
use Rattle.rules.specs.Words.{pick, unless}
use Rattle.rules.specs.States.{with_middle}
use Rattle.rules.specs.Clicks.{Desk, Play, done, on}
use Rattle.rules.specs.Mouse.{flipped}
use Rattle.rules.specs.Step.{mouse, by_game, pointer_of, event_of, event_refusal, counts}
use Rattle.rules.specs.Calls.{last_play}
use Rattle.rules.specs.Book.{events_of}
use Rattle.rules.specs.Printout.{spaced, word_line, word_refused, word_at_place, game_line, event_lines, end_lines, book_board, book_desk}
use Rattle.mouse.specs.Before.{resolved_before}
use Rattle.book.specs.Before.{book_before}

-- ---- one event -------------------------------------------------------------------------------------------------------------------------

unfoldable pub plain_before : ℕ → Pointer → Desk → Event
plain_before code x d = event_of (resolved_before code (mouse d) d.position.middle) x

unfoldable pub refusal_before : ℕ → Pointer → Desk → ℕ
refusal_before code x d = unless 31 (ltb d.position.events 65535) (event_refusal d.position.game (plain_before code x d) d)

unfoldable pub play_before : List ℤ → ℕ → Pointer → Desk → Play
play_before B code x d =
    counts d (by_game d.position.game B (plain_before code x d) (on d (with_middle d.position (flipped code d.position.middle))))

unfoldable pub step_at_before : List ℤ → ℕ → Pointer → Desk → Play
step_at_before B code x d = pick (eqb (refusal_before code x d) 0) (play_before B code x d) (done (refusal_before code x d) d)

unfoldable pub step_by_before : List ℤ → ℕ → Option Pointer → Desk → Play
step_by_before B code (Some x) d = step_at_before B code x d
step_by_before B code None d = done 30 d

unfoldable pub step_before : List ℤ → ℕ → ℕ → ℕ → Desk → Play
step_before B code r c d = step_by_before B code (pointer_of d.position.settings r c) d

-- ---- a book ----------------------------------------------------------------------------------------------------------------------------

unfoldable pub plays_before : List ℤ → List ℕ → Desk → List Play
plays_before B [] d = []
plays_before B (code ∷ []) d = []
plays_before B (code ∷ r ∷ []) d = []
plays_before B (code ∷ r ∷ c ∷ es) d =
    let o = step_before B code r c d in
    let rest = plays_before B es o.desk in
    o ∷ pick (leb 20 o.answer) [] rest

-- what `replay` printed of a book and its plays
abbrev pub printed : List ℕ → Book → List Play → List ℕ
printed s b os =
    pick (eqb b.number 0)
    (game_line b.settings ++ (event_lines 1 os ++ end_lines (book_board s b) (last_play (done 0 (book_desk s b)) os).desk))
    (word_refused ++ (spaced (b.number ∷ []) ++ word_line word_at_place (b.place ∷ [])))

unfoldable pub printout_before : List ℕ → List ℕ
printout_before s = printed s (book_before s) (plays_before (book_board s (book_before s)) (events_of s (book_before s)) (book_desk s (book_before s)))
