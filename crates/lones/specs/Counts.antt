-- What counting the lone numbers ensures: those of a chord's cells, and those that pass a test among cells that follow each other.
use Rattle.std.specs.Prelude.{◌≡◌, Bool, List, ℕ, ◌+◌, ◌≤◌, ℤ}
use Rattle.rules.specs.Grid.{cells_if}
use Rattle.rules.specs.Judging.{lones}

-- the lone numbers of a chord's cells, at most eight
pub record Lone (B : List ℤ) (R C : ℕ) (cells : List ℕ) (r : ℕ) : Type 0 where
  pub answer : r ≡ lones B R C cells
  pub few : r ≤ 8

-- the lone numbers that pass a test among n cells, from one on
pub record LoneRow (B : List ℤ) (R C : ℕ) (due : ℕ → Bool) (from n r : ℕ) : Type 0 where
  pub answer : lones B R C (cells_if due from) + r ≡ lones B R C (cells_if due (from + n))
  pub few : r ≤ n
