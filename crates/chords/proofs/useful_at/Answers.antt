-- `useful_at`: the tests are the definition's, in its order.
use native.Mathlib.Omega.{arith}
use Rattle.cells.proofs.Grid.{cell_lt}
use Rattle.chords.proofs.Useful.{useful_eight, useful_flags, useful_closed}
use Rattle.chords.proofs.useful_at.Goals as goal

pub overflow_mul-v : goal.overflow_mul-v
overflow_mul-v c = let b = cell_lt c.args.rows c.args.columns c.args.row c.args.column c.requires.row_lt_rows.0 c.requires.row_lt_rows.1 in omega (arith, c.requires.sized.cells)

pub overflow_add-v : goal.overflow_add-v
overflow_add-v c = let b = cell_lt c.args.rows c.args.columns c.args.row c.args.column c.requires.row_lt_rows.0 c.requires.row_lt_rows.1 in omega (arith, c.requires.sized.cells)

pub bounds-shown-row : goal.bounds-shown-row
bounds-shown-row c = let b = cell_lt c.args.rows c.args.columns c.args.row c.args.column c.requires.row_lt_rows.0 c.requires.row_lt_rows.1 in omega (arith, c.requires.shown_len)

pub returns-then-v-ge8 : goal.returns-then-v-ge8
returns-then-v-ge8 c = useful_eight _ _ _ _ c.if-v-ge8.true

pub returns-then-seen-v : goal.returns-then-seen-v
returns-then-seen-v c = useful_flags _ _ _ _ _ c.shown_around-seen.ensures.flag c.if-v-ge8.false c.if-seen-v.true

pub returns : goal.returns
returns c = useful_closed _ _ _ _ _ c.shown_around-seen.ensures.flag c.if-v-ge8.false c.if-seen-v.false _ c.shown_around-seen.ensures.close
