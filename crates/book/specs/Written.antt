-- How a book is written, in its two forms: settings, mines and events laid out one after the other, each after its count.
use Rattle.std.specs.Prelude.{◌≡◌, Bool, true, List, [], ◌∷◌, ◌++◌, ℕ, ◌+◌, ◌*◌, ◌/◌, ◌%◌, ◌<◌, ◌≤◌, eqb, length, get_or}
use Rattle.rules.specs.declared.Settings.{Settings}
use Rattle.rules.specs.Words.{pick, bit, every}
use Rattle.rules.specs.Grid.{size_ok}
use Rattle.rules.specs.Board.{mines_in, mine_ok}
use Rattle.rules.specs.Mouse.{rules_ok}
use Rattle.rules.specs.Calls.{mode_ok}
use Rattle.rules.specs.Book.{byte_at, max_events}

-- a two-byte count, low byte first
abbrev pub word : ℕ → List ℕ
word n = n % 256 ∷ n / 256 ∷ []

-- the two forms of a book: the old one, which means rules 1, and the one that says its rules
pub data Form : Type 0 where
  old : Form
  ruled : Form

-- the form of a byte string
abbrev pub form_of : List ℕ → Form
form_of s = pick (eqb (byte_at s 0) 5) ruled old

-- the count of the settings
abbrev pub settings_count : Form → ℕ
settings_count old = 4
settings_count ruled = 5

-- the rules that a form can say
abbrev pub says_rules : Form → ℕ → Bool
says_rules old rules = eqb rules 1
says_rules ruled rules = rules_ok rules

-- the count byte, then rows, columns, mode, question, and in the second form the rules
abbrev pub settings_bytes : Form → Settings → List ℕ
settings_bytes old g = 4 ∷ g.rows ∷ g.columns ∷ g.mode ∷ bit g.question ∷ []
settings_bytes ruled g = 5 ∷ g.rows ∷ g.columns ∷ g.mode ∷ bit g.question ∷ g.rules ∷ []

-- how many event records a list of bytes holds
abbrev pub events_in : List ℕ → ℕ
events_in es = length es / 3

-- this mine list and these event records, each after its count
abbrev pub sections_bytes : List ℕ → List ℕ → List ℕ
sections_bytes ms es = word (mines_in ms) ++ (ms ++ (word (events_in es) ++ es))

-- the book of these settings, this mine list and these event records
unfoldable pub written : Form → Settings → List ℕ → List ℕ → List ℕ
written f g ms es = settings_bytes f g ++ sections_bytes ms es

-- settings within their limits, rules that the form can say, mines on the board and rising, fewer than the cells, and at most 8,192 whole event
-- records
pub record Writable (f : Form) (g : Settings) (ms es : List ℕ) : Type 0 where
  pub size : size_ok g.rows g.columns ≡ true
  pub mode : mode_ok g.mode ≡ true
  pub rules : says_rules f g.rules ≡ true
  pub pairs : length ms % 2 ≡ 0
  pub rising : every (mine_ok g.rows g.columns ms) (mines_in ms) ≡ true
  pub fewer : mines_in ms < g.rows * g.columns
  pub whole : length es % 3 ≡ 0
  pub few : events_in es ≤ max_events

-- every entry is a byte
abbrev pub Bytes : List ℕ → Type 0
Bytes s = (i : ℕ) → get_or s i 0 < 256

-- a byte string is the written form of a book
pub record IsWritten (s : List ℕ) : Type 0 where
  pub form : Form
  pub settings : Settings
  pub mines : List ℕ
  pub events : List ℕ
  pub writable : Writable form settings mines events
  pub same : s ≡ written form settings mines events

-- the bytes of the longest book: at most 2,047 mines and 8,192 events, where the mine count stands at `at`
abbrev pub longest_from : ℕ → ℕ
longest_from at = at + (2 + 2 * 2047) + (2 + 3 * max_events)

abbrev pub longest : ℕ
longest = longest_from 6
