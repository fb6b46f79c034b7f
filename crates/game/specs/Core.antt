-- What the core requires of its work, and a plain event played and counted.
use Rattle.std.specs.Prelude.{List, ℕ, ◌*◌, ◌≤◌, length, ℤ}
use Rattle.rules.specs.declared.Settings.{Settings}
use Rattle.rules.specs.declared.Event.{Event}
use Rattle.rules.specs.Lent.{work_room}
use Rattle.rules.specs.Clicks.{Desk, Play}
use Rattle.rules.specs.Step.{by_game, counts}
use Rattle.cells.specs.Ground.{Zeros}

-- work lent as zeros, with its room
pub record Blank (s : Settings) (work : List ℕ) : Type 0 where
  pub room : work_room (s.rows * s.columns) ≤ length work
  pub zeros : Zeros (work_room (s.rows * s.columns)) work

-- a plain event is played by the game state, and counted
abbrev pub play_event : List ℤ → Event → Desk → Play
play_event B e d = counts d (by_game d.position.game B e d)
