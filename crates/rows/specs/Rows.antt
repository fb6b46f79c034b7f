-- A row of records, and moves that follow each other in it.
use Rattle.std.specs.Prelude.{◌≡◌, Option, Some, None, Bool, true, false, ◌&&◌, List, ℕ, ◌+◌, ◌-◌, ◌<◌, eqb, ℤ}
use Rattle.rules.specs.declared.Settings.{Settings}
use Rattle.rules.specs.Clicks.{Desk, Play}
use Rattle.rules.specs.Step.{pointer_of}
use Rattle.flows.specs.Runs.{is_at}
use Rattle.records.specs.declared.Record.{Record}
use Rattle.records.specs.Entries.{entry_at}
use Rattle.rules.specs.Slides.{Tape, run_to, play_record}

-- the records from one on, and the last play of those up to another
abbrev pub tape_from : List ℤ → List ℕ → ℕ → Desk → Tape
tape_from B es from d = record { first = d; event = λ e. play_record B es (from + e) }

abbrev pub row_on : List ℤ → List ℕ → ℕ → ℕ → Desk → Play
row_on B es from to d = run_to (tape_from B es from d) (to - from)

-- a move that is not refused 30
abbrev pub move_of : Settings → Option Record → Bool
move_of s (Some e) = eqb e.code 4 && is_at (pointer_of s e.row e.column)
move_of s None = false

-- n such moves follow each other from a record on
pub record Moves (s : Settings) (es : List ℕ) (from n : ℕ) : Type 0 where
  pub each : (j : ℕ) → j < n → move_of s (entry_at es (from + j)) ≡ true
