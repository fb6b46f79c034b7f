-- The settings of a book in document 01's words, before the league's rules 2: what old books are held to, in proofs/Before.antt.
use Rattle.std.specs.Prelude.{List, ℕ, leb, eqb}
use Rattle.rules.specs.declared.Settings.{Settings}
use Rattle.rules.specs.declared.Book.{Book}
use Rattle.rules.specs.Grid.{size_ok}
use Rattle.rules.specs.Calls.{mode_ok}
use Rattle.rules.specs.Book.{byte_at, or_else, reaches, mines_section, events_end, book_ends}

-- rows, columns, mode, question; rules 1
abbrev pub settings_before : List ℕ → Settings
settings_before s = record { rows = byte_at s 1; columns = byte_at s 2; mode = byte_at s 3; question = eqb (byte_at s 4) 1; rules = 1 }

-- the settings count is tested first, then that its four bytes are there, then question, size, mode
unfoldable pub section_before : List ℕ → Book → Book
section_before s rest =
    reaches s 1
    (or_else 41 0 (eqb (byte_at s 0) 4)
    (reaches s 5
    (or_else 41 4 (leb (byte_at s 4) 1)
    (or_else 20 1 (size_ok (byte_at s 1) (byte_at s 2))
    (or_else 25 3 (mode_ok (byte_at s 3)) rest)))))

-- mines and events follow them
unfoldable pub sections_before : List ℕ → Book
sections_before s = section_before s (mines_section s 5 (settings_before s))

unfoldable pub book_before : List ℕ → Book
book_before s = book_ends s (events_end (sections_before s)) (sections_before s)
