-- Demand 3 over the class, for a game that goes on after refused events: no cell shows 11 or 14 there, so twins need agree only where a cell is open.
-- proofs/Secrecy.antt proves it.
use Rattle.std.specs.Prelude.{◌≡◌, List, ℕ, ℤ}
use Rattle.rules.specs.declared.Settings.{Settings}
use Rattle.rules.specs.Board.{board_check}
use Rattle.secrecy.specs.Demand.{seen_of, end_of, SameMines, AgreeOpen, AgreeHit}
use Rattle.noflag.specs.Class.{class_game}

-- two accepted boards of one size with equally many mines; they agree at every cell that shows 0 to 8 or 15 at the end of the first game
pub record ClassTwins (s : Settings) (end : List ℕ) (A B : List ℤ) : Type 0 where
  pub first : board_check s.rows s.columns A ≡ 0
  pub second : board_check s.rows s.columns B ≡ 0
  pub mines : SameMines s end A B
  pub opens : AgreeOpen s end A B
  pub hits : AgreeHit s end A B

-- THE demand over the class: after every event, refused ones too, both games give the same answer or refusal, sum of opened cells, shown board, game
-- and mouse state and counts
abbrev pub ClassDemand : Type 0
ClassDemand =
    (s : Settings) (events : List ℕ) (A B : List ℤ) → s.mode ≡ 0 → ClassTwins s (end_of s A (class_game s events A)) A B
    → seen_of s (class_game s events A) ≡ seen_of s (class_game s events B)
