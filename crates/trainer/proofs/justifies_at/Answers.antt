-- `trainer::justifies_at` meets its contract: the tests are the definition's, in its order.
use native.Mathlib.Omega.{arith}
use Rattle.cells.proofs.Grid.{on_grid, cell_back}
use Rattle.trainer.proofs.Hints.{justifies_off, justifies_zero, justifies_high, justifies_flags}
use Rattle.trainer.proofs.justifies_at.Goals as goal

pub returns-then-shown-cell : goal.returns-then-shown-cell
returns-then-shown-cell c = justifies_off _ _ _ _ c.if-shown-cell.true

pub returns-then-v-lt1 : goal.returns-then-v-lt1
returns-then-v-lt1 c = justifies_zero _ _ _ _ c.if-v-lt1.true

pub returns-then-v-gt8 : goal.returns-then-v-gt8
returns-then-v-gt8 c = justifies_high _ _ _ _ c.if-v-lt1.false c.if-v-gt8.true

pub shown_around-seen-requires : goal.shown_around-seen-requires
shown_around-seen-requires c = record { sized = c.requires.sized; row_lt_rows = on_grid _ _ _ c.requires.sized.column (omega arith); shown_len = c.requires.shown_len }

pub returns : goal.returns
returns c = let a = c.args in justifies_flags _ _ _ _ (cell_back a.columns a.cell) c.if-v-lt1.false c.if-v-gt8.false c.shown_around-seen.ensures.flag
