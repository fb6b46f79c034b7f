-- The form of a book by its byte places: what a byte string is that is accepted, and what is then read in it.
use Rattle.std.specs.Prelude.{◌≡◌, true, List, ℕ, ◌+◌, ◌*◌, ◌<◌, ◌≤◌, length, drop}
use Rattle.rules.specs.declared.Settings.{Settings}
use Rattle.rules.specs.declared.Book.{Book}
use Rattle.rules.specs.Words.{every}
use Rattle.rules.specs.Grid.{size_ok}
use Rattle.rules.specs.Board.{mine_ok}
use Rattle.rules.specs.Mouse.{rules_ok}
use Rattle.rules.specs.Calls.{mode_ok}
use Rattle.rules.specs.Book.{byte_at, word_at, rules_at, settings_at, mine_count_at, max_events}

-- the count of the settings is 4 or 5, and as many bytes are there
pub record Counted (s : List ℕ) : Type 0 where
  pub least : 4 ≤ byte_at s 0
  pub most : byte_at s 0 ≤ 5
  pub there : mine_count_at s ≤ length s

-- and they are right
pub record SettingsLaid (s : List ℕ) : Type 0 where
  pub counted : Counted s
  pub question : byte_at s 4 ≤ 1
  pub size : size_ok (byte_at s 1) (byte_at s 2) ≡ true
  pub mode : mode_ok (byte_at s 3) ≡ true
  pub rules : rules_ok (rules_at s) ≡ true

-- the mine count stands at `at`, the mines after it, then the event count, the events to the end
abbrev pub event_count_at : List ℕ → ℕ → ℕ
event_count_at s at = at + 2 + 2 * word_at s at

abbrev pub end_at : List ℕ → ℕ → ℕ
end_at s at = event_count_at s at + 2 + 3 * word_at s (event_count_at s at)

-- from there on mines and events are there and right
pub record LaidFrom (s : List ℕ) (at : ℕ) (g : Settings) : Type 0 where
  pub fewer : word_at s at < g.rows * g.columns
  pub rising : every (mine_ok g.rows g.columns (drop (at + 2) s)) (word_at s at) ≡ true
  pub few : word_at s (event_count_at s at) ≤ max_events
  pub there : end_at s at ≤ length s

-- what is read in them
abbrev pub read_from : List ℕ → ℕ → Settings → Book
read_from s at g = record {
  number = 0;
  place = 0;
  settings = g;
  mines_at = at + 2;
  mines = word_at s at;
  events_at = event_count_at s at + 2;
  events = word_at s (event_count_at s at);
}

-- a byte string has the form of a book
pub record Laid (s : List ℕ) : Type 0 where
  pub settings : SettingsLaid s
  pub sections : LaidFrom s (mine_count_at s) (settings_at s)
  pub ends : length s ≡ end_at s (mine_count_at s)

-- what is read in it
abbrev pub laid_book : List ℕ → Book
laid_book s = read_from s (mine_count_at s) (settings_at s)
