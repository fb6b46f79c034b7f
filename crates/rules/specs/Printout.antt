-- The printout of a book: what `replay` writes, byte for byte.
use Rattle.std.specs.Prelude.{List, [], ◌∷◌, ◌++◌, ℕ, zero, suc, ◌+◌, ◌/◌, ◌%◌, ltb, eqb, take, drop, ℤ}
use Rattle.rules.specs.declared.Position.{Position}
use Rattle.rules.specs.declared.Settings.{Settings}
use Rattle.rules.specs.declared.Book.{Book}
use Rattle.rules.specs.Words.{pick, bit}
use Rattle.rules.specs.States.{game_number, mouse_number}
use Rattle.rules.specs.Board.{numbered}
use Rattle.rules.specs.Judging.{total3bv, left_to_solve}
use Rattle.rules.specs.Clicks.{Desk, Play, done}
use Rattle.rules.specs.Calls.{fresh_desk, plays, last_play}
use Rattle.rules.specs.Book.{book_of, mines_of, events_of}

-- ---- text ------------------------------------------------------------------------------------------------------------------------------

-- a number's decimal digits, in at most so many
unfoldable pub digits : ℕ → ℕ → List ℕ → List ℕ
digits zero n more = more
digits (suc f) n more =
    let rest = digits f (n / 10) ((48 + n % 10) ∷ more) in
    pick (ltb n 10) ((48 + n) ∷ more) rest

abbrev pub decimal : ℕ → List ℕ
decimal n = digits 10 n []

-- numbers with a space before each
unfoldable pub spaced : List ℕ → List ℕ
spaced [] = []
spaced (n ∷ ns) = (32 ∷ decimal n) ++ spaced ns

-- a line of numbers, with a space between, ended by LF
unfoldable pub line_of : List ℕ → List ℕ
line_of [] = 10 ∷ []
line_of (n ∷ ns) = decimal n ++ (spaced ns ++ (10 ∷ []))

-- a word and then numbers, ended by LF
abbrev pub word_line : List ℕ → List ℕ → List ℕ
word_line word ns = word ++ (spaced ns ++ (10 ∷ []))

-- the words game, counts, bv, refused and at
abbrev pub word_game : List ℕ
word_game = 103 ∷ 97 ∷ 109 ∷ 101 ∷ []

abbrev pub word_counts : List ℕ
word_counts = 99 ∷ 111 ∷ 117 ∷ 110 ∷ 116 ∷ 115 ∷ []

abbrev pub word_bv : List ℕ
word_bv = 98 ∷ 118 ∷ []

abbrev pub word_refused : List ℕ
word_refused = 114 ∷ 101 ∷ 102 ∷ 117 ∷ 115 ∷ 101 ∷ 100 ∷ []

abbrev pub word_at_place : List ℕ
word_at_place = 32 ∷ 97 ∷ 116 ∷ []

-- ---- lines -----------------------------------------------------------------------------------------------------------------------------

-- line one: rows, columns, mode, question
abbrev pub game_line : Settings → List ℕ
game_line s = word_line word_game (s.rows ∷ s.columns ∷ s.mode ∷ bit s.question ∷ [])

-- each event: its number, answer, game state, mouse state
abbrev pub event_line : ℕ → Play → List ℕ
event_line n o = line_of (n ∷ o.answer ∷ game_number o.desk.position.game ∷ mouse_number o.desk.position.mouse ∷ [])

unfoldable pub event_lines : ℕ → List Play → List ℕ
event_lines n [] = []
event_lines n (o ∷ os) = event_line n o ++ event_lines (suc n) os

-- counts: left, right, double, lce, rce, dce, flag, solved_left, solved_chord
abbrev pub nine_counts : Position → List ℕ
nine_counts p =
    p.counts.left ∷ p.counts.right ∷ p.counts.double ∷ p.counts.lce ∷ p.secrets.rce ∷ p.counts.dce ∷ p.counts.flag
    ∷ p.secrets.solved_left ∷ p.secrets.solved_chord ∷ []

-- bv: total, left to solve
abbrev pub two_bv : List ℤ → Desk → List ℕ
two_bv B d =
    total3bv B d.position.settings.rows d.position.settings.columns
    ∷ left_to_solve B d.position.settings.rows d.position.settings.columns d.shown ∷ []

-- the shown rows
unfoldable pub row_lines : ℕ → ℕ → List ℕ → List ℕ
row_lines zero C shown = []
row_lines (suc n) C shown = line_of (take C shown) ++ row_lines n C (drop C shown)

-- ---- the whole -------------------------------------------------------------------------------------------------------------------------

-- what is left after the last event
abbrev pub end_lines : List ℤ → Desk → List ℕ
end_lines B d =
    word_line word_counts (nine_counts d.position)
    ++ (word_line word_bv (two_bv B d) ++ row_lines d.position.settings.rows d.position.settings.columns d.shown)

-- the board of a book, and its fresh desk
abbrev pub book_board : List ℕ → Book → List ℤ
book_board s b = numbered b.settings.rows b.settings.columns (mines_of s b)

abbrev pub book_desk : List ℕ → Book → Desk
book_desk s b = fresh_desk b.settings (book_board s b)

-- the plays of a book
abbrev pub book_plays : List ℕ → Book → List Play
book_plays s b = plays (book_board s b) (events_of s b) (book_desk s b)

-- the desk after a book's last event
abbrev pub book_end : List ℕ → Book → Desk
book_end s b = (last_play (done 0 (book_desk s b)) (book_plays s b)).desk

unfoldable pub printout_by : List ℕ → Book → List ℕ
printout_by s b =
    pick (eqb b.number 0)
    (game_line b.settings ++ (event_lines 1 (book_plays s b) ++ end_lines (book_board s b) (book_end s b)))
    (word_refused ++ (spaced (b.number ∷ []) ++ word_line word_at_place (b.place ∷ [])))

-- THE printout; a refused book prints only `refused N at P`
unfoldable pub printout_of : List ℕ → List ℕ
printout_of s = printout_by s (book_of s)
