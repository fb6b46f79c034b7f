-- `trainer::place_of` meets its contract: a row and a column of the board fit a byte.
use native.Mathlib.Omega.{arith}
use Rattle.cells.proofs.Grid.{on_grid}
use Rattle.trainer.proofs.place_of.Goals as goal

pub overflow_cast-row : goal.overflow_cast-row
overflow_cast-row c = let g = on_grid _ _ _ c.requires.sized.column c.requires.cell_bound in omega (arith, g.0, c.requires.sized.rows64)

pub overflow_cast-column : goal.overflow_cast-column
overflow_cast-column c = let g = on_grid _ _ _ c.requires.sized.column c.requires.cell_bound in omega (arith, g.1, c.requires.sized.columns64)
