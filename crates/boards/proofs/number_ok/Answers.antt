-- `boards::number_ok` meets its contract: a mine, or the face compared with the count of faces 15 around it. Assumes nothing.
use mathlib.Core.Path.{sym, ◌∙◌}
use native.Mathlib.Omega.{arith}
use Rattle.cells.proofs.Grid.{cell_lt}
use Rattle.boards.proofs.Tests.{number_mine, number_safe}
use Rattle.boards.proofs.number_ok.Goals as goal

pub overflow_mul-row : goal.overflow_mul-row
overflow_mul-row c = let a = c.args in
    omega (arith, c.requires.mined.sized.cells, cell_lt a.rows a.columns a.row a.column c.requires.row_lt_rows.0 c.requires.row_lt_rows.1)

pub overflow_add-row : goal.overflow_add-row
overflow_add-row c = let a = c.args in
    omega (arith, c.requires.mined.sized.cells, cell_lt a.rows a.columns a.row a.column c.requires.row_lt_rows.0 c.requires.row_lt_rows.1)

pub face_at-f-requires : goal.face_at-f-requires
face_at-f-requires c = let a = c.args in record { cell_in_bounds = omega (arith, c.requires.mined.long, cell_lt a.rows a.columns a.row a.column c.requires.row_lt_rows.0 c.requires.row_lt_rows.1); valued = c.requires.mined.valued }

pub returns-then-f-eq15 : goal.returns-then-f-eq15
returns-then-f-eq15 c = let a = c.args in
    number_mine a.mines.now a.rows a.columns _ (sym c.face_at-f.ensures ∙ c.if-f-eq15.true)

pub faces_around-n-requires : goal.faces_around-n-requires
faces_around-n-requires c = record { mined = c.requires.mined; row_lt_rows = c.requires.row_lt_rows }

pub returns : goal.returns
returns c = let a = c.args in
    number_safe a.mines.now a.rows a.columns _ _ _ c.face_at-f.ensures c.if-f-eq15.false
    c.faces_around-n.ensures.0
