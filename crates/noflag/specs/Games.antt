-- A game of the class that goes on after refused events, and two boards with a mine in different places that are twins. proofs/Games.antt computes them.
use Rattle.std.specs.Prelude.{◌≡◌, false, List, [], ◌∷◌, ℕ, ℤ, pos, negsuc}
use Rattle.rules.specs.declared.Settings.{Settings}
use Rattle.rules.specs.States.{game_number}
use Rattle.rules.specs.Clicks.{Play}
use Rattle.secrecy.specs.Demand.{end_of}
use Rattle.noflag.specs.Class.{class_game}
use Rattle.noflag.specs.Demand.{ClassTwins}

-- the answers, each with the game state after it
unfoldable pub answers : List Play → List (List ℕ)
answers [] = []
answers (o ∷ os) = (o.answer ∷ game_number o.desk.position.game ∷ []) ∷ answers os

-- a board of one row in mode 0, question marks off, rules 1
abbrev pub row_of : ℕ → Settings
row_of n = record { rows = 1; columns = n; mode = 0; question = false; rules = 1 }

abbrev pub mine : ℤ
mine = negsuc 0

-- 1 × 1 without a mine: r at (0, 1), 12, every forbidden code; open, and pf once more
abbrev pub lone : List ℤ
lone = pos 0 ∷ []

abbrev pub refused_events : List ℕ
refused_events =
    10 ∷ 0 ∷ 1 ∷ 12 ∷ 0 ∷ 0 ∷ 2 ∷ 0 ∷ 0 ∷ 3 ∷ 0 ∷ 0 ∷ 10 ∷ 0 ∷ 0 ∷ 7 ∷ 0 ∷ 0 ∷ 8 ∷ 0 ∷ 0 ∷ 0 ∷ 0 ∷ 0 ∷ 1 ∷ 0 ∷ 0 ∷ 8 ∷ 0 ∷ 0 ∷ []

-- 1 × 5 with mines at 1 and 3, and at 1 and 4; open 0
abbrev pub strip : List ℤ
strip = pos 1 ∷ mine ∷ pos 2 ∷ mine ∷ pos 1 ∷ []

abbrev pub other_strip : List ℤ
other_strip = pos 1 ∷ mine ∷ pos 1 ∷ pos 1 ∷ mine ∷ []

abbrev pub opens_first : List ℕ
opens_first = 0 ∷ 0 ∷ 0 ∷ 1 ∷ 0 ∷ 0 ∷ []

pub record Worked : Type 0 where
  -- r neither on a cell nor off the board is 30, code 12 in Ready 33, every forbidden code 34; the game goes on and is won, and pf is 34 in Win too
  pub goes_on : answers (class_game (row_of 1) refused_events lone)
      ≡ (30 ∷ 0 ∷ []) ∷ (33 ∷ 0 ∷ []) ∷ (34 ∷ 0 ∷ []) ∷ (34 ∷ 0 ∷ []) ∷ (34 ∷ 0 ∷ []) ∷ (34 ∷ 0 ∷ []) ∷ (34 ∷ 0 ∷ []) ∷ (0 ∷ 4 ∷ []) ∷ (2 ∷ 2 ∷ [])
      ∷ (34 ∷ 2 ∷ []) ∷ []
  -- two boards with a mine in different places meet the hypotheses of the demand
  pub twins : ClassTwins (row_of 5) (end_of (row_of 5) strip (class_game (row_of 5) opens_first strip)) strip other_strip
