-- What the inner functions ensure.
use Rattle.std.specs.Prelude.{◌≡◌, List, ℕ, ◌*◌, ℤ}
use Rattle.rules.specs.Lent.{work_after}
use Rattle.rules.specs.Judging.{left_to_solve}

-- what is left to solve was counted, and work w is cleared
pub record LeftMade (B : List ℤ) (R C : ℕ) (shown w : List ℕ) (r : ℕ) (w' : List ℕ) : Type 0 where
  pub left : r ≡ left_to_solve B R C shown
  pub cleared : w' ≡ work_after (R * C) w
