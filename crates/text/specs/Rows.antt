-- What the shown rows ask of the board and of the buffer.
use Rattle.std.specs.Prelude.{List, ℕ, ◌+◌, ◌*◌, ◌≤◌, length}

-- the shown board has its rows, and the buffer has room for them: at most four bytes a cell
pub record RowsFit (R C : ℕ) (shown : List ℕ) (at : ℕ) (out : List ℕ) : Type 0 where
  pub column : 1 ≤ C
  pub cells : R * C ≤ length shown
  pub fits : at + 4 * (R * C) ≤ length out
