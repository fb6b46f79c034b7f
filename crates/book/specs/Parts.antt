-- What the reader says of one mine.
use Rattle.std.specs.Prelude.{Bool, ◌&&◌, ℕ, ltb, leb}
use Rattle.rules.specs.Grid.{cell_of}

-- a mine is on the board, and its cell is not before `next`
unfoldable pub mine_fits : ℕ → ℕ → ℕ → ℕ → ℕ → Bool
mine_fits R C row column next = ltb row R && (ltb column C && leb next (cell_of C row column))
