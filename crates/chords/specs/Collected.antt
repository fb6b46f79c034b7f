-- The cells that a chord collects.
use Rattle.std.specs.Prelude.{◌≡◌, List, ℕ, ◌≤◌, length}
use Rattle.cells.specs.Stack.{stacked}

-- the cells, at most k, are the stack
pub record Collected (st : List ℕ) (k : ℕ) (cells : List ℕ) : Type 0 where
  pub stack : stacked cells ≡ st
  pub most : length cells ≤ k
