-- Where a row of events ends, and moves that follow each other in it.
use Rattle.std.specs.Prelude.{◌≡◌, Bool, true, false, ◌&&◌, List, ℕ, ◌+◌, ◌*◌, ◌<◌, ◌≤◌, eqb, length, get_or, ℤ, Option, Some, None}
use Rattle.rules.specs.declared.Pointer.{Pointer}
use Rattle.rules.specs.declared.Settings.{Settings}
use Rattle.rules.specs.Clicks.{Desk, Play, done}
use Rattle.rules.specs.Step.{pointer_of}
use Rattle.rules.specs.Calls.{plays, last_play}

-- the last play of a row of events
abbrev pub flow_on : List ℤ → List ℕ → Desk → Play
flow_on B events d = last_play (done 0 d) (plays B events d)

-- the event at a place of a row is a move that is not refused 30
abbrev pub is_at : Option Pointer → Bool
is_at (Some x) = true
is_at None = false

abbrev pub move_at : Settings → List ℕ → ℕ → Bool
move_at s events at = eqb (get_or events at 0) 4 && is_at (pointer_of s (get_or events (at + 1) 0) (get_or events (at + 2) 0))

-- n such moves follow each other from a place on
pub record Moves (s : Settings) (events : List ℕ) (from n : ℕ) : Type 0 where
  pub room : from + 3 * n ≤ length events
  pub each : (k : ℕ) → k < n → move_at s events (from + 3 * k) ≡ true
