-- What a chord does to the room that the next one requires.
use Rattle.std.specs.Prelude.{◌≡◌, ◌<◌, length}
use Rattle.rules.specs.Clicks.{Desk, Play, done}
use Rattle.cells.specs.Promises.{closed_in, PassRoomAt}

-- either nothing changed, or the answer is not 0, fewer cells are closed, and what the next chord requires is there
pub data Fell (d : Desk) (o : Play) : Type 0 where
  idle : o ≡ done 0 d → Fell d o
  fell : (o.answer ≡ 0 → ⊥) → closed_in o.desk.shown < closed_in d.shown → length o.desk.shown ≡ length d.shown
      → o.desk.position.settings ≡ d.position.settings → o.desk.bits ≡ d.bits → (PassRoomAt d.position d.shown → PassRoomAt o.desk.position o.desk.shown)
      → Fell d o
