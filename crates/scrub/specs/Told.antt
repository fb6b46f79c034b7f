-- What is told of a drag, and what that asks.
use Rattle.std.specs.Prelude.{List, [], ◌∷◌, ◌++◌, ℕ, ◌+◌, ◌*◌, ◌<◌, ◌≤◌, length}
use Rattle.rules.specs.declared.Settings.{Settings}
use Rattle.rules.specs.Words.{bit}
use Rattle.rules.specs.States.{game_number, mouse_number}
use Rattle.rules.specs.Printout.{nine_counts}
use Rattle.rules.specs.Slides.{Dragged}
use Rattle.slider.specs.declared.Drag.{Drag}
use Rattle.slider.specs.Promises.{dragged_by}

-- a drag with its shown board
abbrev pub told : Drag → List ℕ → Dragged
told o shown = dragged_by o [] shown [] [] []

abbrev pub told_numbers : Drag → List ℕ
told_numbers o =
    o.answer ∷ game_number o.position.game ∷ mouse_number o.position.mouse ∷ bit o.position.middle
    ∷ (nine_counts o.position ++ (o.position.preflags ∷ o.position.events ∷ []))

-- the start fits, the board has its rows, and the buffer has room
pub record Tellable (g : Settings) (o : Drag) (shown : List ℕ) (room : ℕ) : Type 0 where
  pub start : o.start < 4294967296
  pub column : 1 ≤ g.columns
  pub cells : g.rows * g.columns ≤ length shown
  pub fits : 176 + 4 * (g.rows * g.columns) ≤ room
