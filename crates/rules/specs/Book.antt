-- The game book: three sections in fixed order, read front to back; the first fault answers, with its byte place.
use Rattle.std.specs.Prelude.{Bool, true, false, ◌||◌, List, [], ℕ, zero, suc, ◌+◌, ◌*◌, ltb, leb, eqb, length, get_or, take, drop}
use Rattle.rules.specs.declared.Settings.{Settings}
use Rattle.rules.specs.declared.Book.{Book}
use Rattle.rules.specs.Words.{pick}
use Rattle.rules.specs.Grid.{size_ok}
use Rattle.rules.specs.Board.{mine_ok}
use Rattle.rules.specs.Mouse.{rules_ok}
use Rattle.rules.specs.Calls.{mode_ok}

abbrev pub byte_at : List ℕ → ℕ → ℕ
byte_at s at = get_or s at 0

-- a two-byte count, low byte first
abbrev pub word_at : List ℕ → ℕ → ℕ
word_at s at = byte_at s at + 256 * byte_at s (at + 1)

-- no book; a refusal with its place
abbrev pub no_settings : Settings
no_settings = record { rows = 0; columns = 0; mode = 0; question = false; rules = 0 }

abbrev pub refused_book : ℕ → ℕ → Book
refused_book n place = record { number = n; place = place; settings = no_settings; mines_at = 0; mines = 0; events_at = 0; events = 0 }

-- refusal n at a place unless the test holds, else the rest
abbrev pub or_else : ℕ → ℕ → Bool → Book → Book
or_else n place true rest = rest
or_else n place false rest = refused_book n place

-- 40: the bytes end (place: the length)
abbrev pub reaches : List ℕ → ℕ → Book → Book
reaches s end rest = or_else 40 (length s) (leb end (length s)) rest

-- ---- events: two-byte count, then code, row, column each ------------------------------------------------------------------------------

abbrev pub max_events : ℕ
max_events = 8192

-- 44: over 8,192 events, tested once the event count is read (its first byte)
unfoldable pub events_from : List ℕ → ℕ → Settings → ℕ → ℕ → Book
events_from s at g minesAt n =
    reaches s (at + 2)
    (or_else 44 at (leb (word_at s at) max_events)
    (reaches s (at + 2 + 3 * word_at s at)
    (record { number = 0; place = 0; settings = g; mines_at = minesAt; mines = n; events_at = at + 2; events = word_at s at })))

-- ---- mines: two-byte count, then row and column each, strictly rising in row order -----------------------------------------------------

-- each mine's two bytes are taken before they are tested; 42: a mine off the board or not rising (its row byte).
-- the n-th mine of the bytes from `at` on, where `left` are still to come
unfoldable pub mines_from : List ℕ → ℕ → ℕ → ℕ → ℕ → ℕ → Book → Book
mines_from s R C at n zero rest = rest
mines_from s R C at n (suc left) rest =
    let more = mines_from s R C at (suc n) left rest in
    reaches s (at + 2 * n + 2) (or_else 42 (at + 2 * n) (mine_ok R C (drop at s) n) more)

-- what follows the settings, where the mine count stands at `at`;
-- 24: at least as many mines as cells, tested once the mine count is read (its first byte)
unfoldable pub mines_section : List ℕ → ℕ → Settings → Book
mines_section s at g =
    reaches s (at + 2)
    (or_else 24 at (ltb (word_at s at) (g.rows * g.columns))
    (mines_from s g.rows g.columns (at + 2) 0 (word_at s at) (events_from s (at + 2 + 2 * word_at s at) g (at + 2) (word_at s at))))

-- ---- settings: count byte 4 or 5, then rows, columns, mode, question (0 or 1), and with count 5 the rules ------------------------------

-- count 4 means rules 1
abbrev pub rules_at : List ℕ → ℕ
rules_at s = pick (eqb (byte_at s 0) 5) (byte_at s 5) 1

abbrev pub settings_at : List ℕ → Settings
settings_at s = record { rows = byte_at s 1; columns = byte_at s 2; mode = byte_at s 3; question = eqb (byte_at s 4) 1; rules = rules_at s }

-- the mine count follows the settings: their count byte, and as many bytes
abbrev pub mine_count_at : List ℕ → ℕ
mine_count_at s = 1 + byte_at s 0

-- the settings count is tested first, then that its four or five bytes are there, then question, size, mode, rules
unfoldable pub settings_section : List ℕ → Book → Book
settings_section s rest =
    reaches s 1
    (or_else 41 0 (eqb (byte_at s 0) 4 || eqb (byte_at s 0) 5)
    (reaches s (mine_count_at s)
    (or_else 41 4 (leb (byte_at s 4) 1)
    (or_else 20 1 (size_ok (byte_at s 1) (byte_at s 2))
    (or_else 25 3 (mode_ok (byte_at s 3))
    (or_else 45 5 (rules_ok (rules_at s)) rest))))))

-- ---- the whole book --------------------------------------------------------------------------------------------------------------------

-- the three sections: what stands up to the last event
unfoldable pub sections_of : List ℕ → Book
sections_of s = settings_section s (mines_section s (mine_count_at s) (settings_at s))

-- where the last event ends
abbrev pub events_end : Book → ℕ
events_end b = b.events_at + 3 * b.events

-- 43: bytes left over (the first), of a book without an earlier fault
unfoldable pub book_ends : List ℕ → ℕ → Book → Book
book_ends s end b = pick (eqb b.number 0) (or_else 43 end (leb (length s) end) b) b

unfoldable pub book_of : List ℕ → Book
book_of s = book_ends s (events_end (sections_of s)) (sections_of s)

-- the parts of the book's own bytes that hold its mines and its event records
unfoldable pub mines_of : List ℕ → Book → List ℕ
mines_of s b = take (2 * b.mines) (drop b.mines_at s)

unfoldable pub events_of : List ℕ → Book → List ℕ
events_of s b = take (3 * b.events) (drop b.events_at s)

-- what is handed back: n bytes from a place on, without a copy; none where they do not fit
unfoldable pub part_of : List ℕ → ℕ → ℕ → List ℕ
part_of s at n = pick (leb (at + n) (length s)) (take n (drop at s)) []
