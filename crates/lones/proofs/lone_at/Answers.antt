-- `lones::lone_at`: a 0 and a mine are none; of a number `lone_number` tells.
use mathlib.Core.Path.{◌∙◌}
use native.Mathlib.Omega.{arith}
use Rattle.cells.proofs.Grid.{cell_lt}
use Rattle.lones.proofs.Lones.{lone_no_zero, lone_no_mine}
use Rattle.lones.proofs.lone_at.Goals as goal

pub overflow_mul-row : goal.overflow_mul-row
overflow_mul-row c = let a = c.args in omega (arith, cell_lt a.rows a.columns a.row a.column c.requires.row_lt_rows.0 c.requires.row_lt_rows.1, c.requires.mined.sized.cells)

pub overflow_add-row : goal.overflow_add-row
overflow_add-row c = let a = c.args in omega (arith, cell_lt a.rows a.columns a.row a.column c.requires.row_lt_rows.0 c.requires.row_lt_rows.1, c.requires.mined.sized.cells)

pub face_at-v-requires : goal.face_at-v-requires
face_at-v-requires c = let a = c.args in record { cell_in_bounds = rw c.requires.mined.long (cell_lt a.rows a.columns a.row a.column c.requires.row_lt_rows.0 c.requires.row_lt_rows.1); valued = c.requires.mined.valued }

pub returns-then-v-eq0 : goal.returns-then-v-eq0
returns-then-v-eq0 c = lone_no_zero _ _ _ _ _ c.face_at-v.ensures c.if-v-eq0.true

pub returns-then-v-eq15 : goal.returns-then-v-eq15
returns-then-v-eq15 c = lone_no_mine _ _ _ _ _ c.face_at-v.ensures c.if-v-eq15.true

pub lone_number-requires : goal.lone_number-requires
lone_number-requires c = record { mined = c.requires.mined; row_lt_rows = c.requires.row_lt_rows; fact = ((λ e. c.if-v-eq0.false (c.face_at-v.ensures ∙ e)), (λ e. c.if-v-eq15.false (c.face_at-v.ensures ∙ e))) }

pub returns : goal.returns
returns c = c.lone_number.ensures
