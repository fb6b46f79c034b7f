-- No hypothesis of the demand can be left out, and the end cannot be taken earlier: for each a game of one row whose boards meet all else, and
-- what is seen differs. proofs/Needed.antt computes them.
use Rattle.std.specs.Prelude.{◌≡◌, List, ℕ, ℤ}
use Rattle.rules.specs.declared.Settings.{Settings}
use Rattle.rules.specs.Board.{board_check}
use Rattle.rules.specs.Clicks.{Play}
use Rattle.secrecy.specs.Demand.{seen_of, game, stopped, end_of, SameMines, AgreeOpen, AgreeWrong, AgreeHit, AgreeFlag, Twins}

-- games on two accepted boards that meet these hypotheses at such an end, and do not look alike
pub record NotEnough (ending : Settings → List ℕ → List ℤ → List Play) (Met : Settings → List ℕ → List ℤ → List ℤ → Type 0) : Type 0 where
  pub s : Settings
  pub events : List ℕ
  pub A : List ℤ
  pub B : List ℤ
  pub first : board_check s.rows s.columns A ≡ 0
  pub second : board_check s.rows s.columns B ≡ 0
  pub met : Met s (end_of s A (ending s events A)) A B
  pub differ : seen_of s (game s events A) ≡ seen_of s (game s events B) → ⊥

-- each hypothesis is needed beside the others
pub record Needed : Type 0 where
  pub mines : NotEnough game (λ s e A B. AgreeOpen s e A B × AgreeWrong s e A B × AgreeHit s e A B × AgreeFlag s e A B)
  pub opens : NotEnough game (λ s e A B. SameMines s e A B × AgreeWrong s e A B × AgreeHit s e A B × AgreeFlag s e A B)
  pub wrong : NotEnough game (λ s e A B. SameMines s e A B × AgreeOpen s e A B × AgreeHit s e A B × AgreeFlag s e A B)
  pub hits : NotEnough game (λ s e A B. SameMines s e A B × AgreeOpen s e A B × AgreeWrong s e A B × AgreeFlag s e A B)
  pub flags : NotEnough game (λ s e A B. SameMines s e A B × AgreeOpen s e A B × AgreeWrong s e A B × AgreeHit s e A B)
  -- twins only as far as the first refused event, in games that go on
  pub onward : NotEnough stopped Twins
