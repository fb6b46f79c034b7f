-- `flagging::ripe` meets its contract: its tests in the order of the definition.
use native.Mathlib.Omega.{arith}
use Rattle.rules.specs.Grid.{cell_of}
use Rattle.rules.specs.Clicks.{flag_at}
use Rattle.cells.proofs.Grid.{cell_lt, around_le}
use Rattle.flagging.proofs.Ripeness.{ripe_low, ripe_high, ripe_is}
use Rattle.flagging.proofs.ripe.Goals as goal

pub overflow_mul-v : goal.overflow_mul-v
overflow_mul-v c = let b = cell_lt c.args.rows c.args.columns c.args.row c.args.column c.requires.row_lt_rows.0 c.requires.row_lt_rows.1 in omega (arith, c.requires.sized.cells)

pub overflow_add-v : goal.overflow_add-v
overflow_add-v c = let b = cell_lt c.args.rows c.args.columns c.args.row c.args.column c.requires.row_lt_rows.0 c.requires.row_lt_rows.1 in omega (arith, c.requires.sized.cells)

pub bounds-shown-row : goal.bounds-shown-row
bounds-shown-row c = let b = cell_lt c.args.rows c.args.columns c.args.row c.args.column c.requires.row_lt_rows.0 c.requires.row_lt_rows.1 in omega (arith, c.requires.shown_len)

pub returns-then-v-lt1 : goal.returns-then-v-lt1
returns-then-v-lt1 c = ripe_low _ _ _ _ c.if-v-lt1.true

pub returns-then-v-gt8 : goal.returns-then-v-gt8
returns-then-v-gt8 c = ripe_high _ _ _ _ c.if-v-lt1.false c.if-v-gt8.true

pub all_closed-requires : goal.all_closed-requires
all_closed-requires c = (omega arith, omega (arith, around_le c.args.rows c.args.columns (flag_at c.args.shown.now) (cell_of c.args.columns c.args.row c.args.column), c.shown_around-seen.ensures.flag))

pub returns : goal.returns
returns c = ripe_is _ _ _ _ _ _ c.if-v-lt1.false c.if-v-gt8.false c.shown_around-seen.ensures c.all_closed.ensures
