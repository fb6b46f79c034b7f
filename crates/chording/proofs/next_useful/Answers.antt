-- `chording::next_useful` meets its contract: the rest of the row, then the rows below.
use native.Mathlib.Omega.{arith}
use Rattle.cells.proofs.Grid.{cell_back}
use Rattle.cells.proofs.Grid.{on_grid}
use Rattle.chording.proofs.Seeking.{sought_first, row_found, row_passed}
use Rattle.chording.proofs.next_useful.Goals as goal

pub overflow_add-cell : goal.overflow_add-cell
overflow_add-cell c = let b = on_grid c.args.rows c.args.columns c.args.cell c.requires.sized.column c.requires.cell_bound in omega (arith, b.1, c.requires.sized.columns64)

pub useful_from-at-requires : goal.useful_from-at-requires
useful_from-at-requires c = let b = on_grid c.args.rows c.args.columns c.args.cell c.requires.sized.column c.requires.cell_bound in record { sized = c.requires.sized; row_lt_rows = (b.0, omega (arith, b.1)); shown_len = c.requires.shown_len }

pub overflow_mul-result : goal.overflow_mul-result
overflow_mul-result c = omega (arith, cell_back c.args.columns c.args.cell, c.requires.sized.cells, c.requires.cell_bound)

pub overflow_add-result : goal.overflow_add-result
overflow_add-result c = omega (arith, cell_back c.args.columns c.args.cell, c.requires.sized.cells, c.requires.cell_bound)

pub returns-then-at-columns : goal.returns-then-at-columns
returns-then-at-columns c = let b = on_grid c.args.rows c.args.columns c.args.cell c.requires.sized.column c.requires.cell_bound in let d = cell_back c.args.columns c.args.cell in row_found _ _ _ _ b.0 _ _ _ (omega arith) c.useful_from-at.ensures c.if-at-columns.true

pub overflow_add-row : goal.overflow_add-row
overflow_add-row c = let b = on_grid c.args.rows c.args.columns c.args.cell c.requires.sized.column c.requires.cell_bound in omega (arith, b.0, c.requires.sized.rows64)

pub useful_below-requires : goal.useful_below-requires
useful_below-requires c = let b = on_grid c.args.rows c.args.columns c.args.cell c.requires.sized.column c.requires.cell_bound in record { sized = c.requires.sized; from_le_rows = omega (arith, b.0); shown_len = c.requires.shown_len }

pub returns : goal.returns
returns c = let b = on_grid c.args.rows c.args.columns c.args.cell c.requires.sized.column c.requires.cell_bound in let d = cell_back c.args.columns c.args.cell in sought_first _ _ _ _ (row_passed _ _ _ _ b.0 _ _ _ (omega arith) c.useful_from-at.ensures c.if-at-columns.false) _ c.useful_below.ensures
