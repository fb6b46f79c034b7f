-- `chording::useful_below` meets its contract. The loop: no row before this one has a useful cell.
use native.Mathlib.Omega.{arith}
use native.Mathlib.Nat.{mul-le-mul_right}
use Rattle.cells.proofs.Grid.{cell_lt}
use Rattle.chording.proofs.Seeking.{sought_start, sought_on, sought_first, sought_done, row_found, row_passed}
use Rattle.chording.proofs.useful_below.Goals as goal

pub loop-row-init : goal.loop-row-init
loop-row-init c = sought_start _ _ _ (mul-le-mul_right c.args.columns c.requires.from_le_rows)

pub useful_of-at-requires : goal.useful_of-at-requires
useful_of-at-requires c = record { sized = c.requires.sized; row_lt_rows = c.loop-row-test.true; shown_len = c.requires.shown_len }

pub overflow_mul-result : goal.overflow_mul-result
overflow_mul-result c = omega (arith, cell_lt c.args.rows c.args.columns c.loop-row.row c.useful_of-at.result c.loop-row-test.true c.if-at-columns.true, c.requires.sized.cells)

pub overflow_add-result : goal.overflow_add-result
overflow_add-result c = omega (arith, cell_lt c.args.rows c.args.columns c.loop-row.row c.useful_of-at.result c.loop-row-test.true c.if-at-columns.true, c.requires.sized.cells)

pub returns-then-at-columns : goal.returns-then-at-columns
returns-then-at-columns c = sought_first _ _ _ _ c.loop-row.invariant _ (row_found _ _ _ _ c.loop-row-test.true 0 _ _ (omega arith) c.useful_of-at.ensures c.if-at-columns.true)

pub loop-row-preserved : goal.loop-row-preserved
loop-row-preserved c = sought_on _ _ _ _ c.loop-row.invariant _ (row_passed _ _ _ _ c.loop-row-test.true 0 _ _ (omega arith) c.useful_of-at.ensures c.if-at-columns.false)

pub overflow_mul-result-2 : goal.overflow_mul-result-2
overflow_mul-result-2 c = omega (arith, c.requires.sized.cells)

pub returns : goal.returns
returns c = sought_done _ _ _ _ c.loop-row.invariant (mul-le-mul_right c.args.columns c.loop-row-test.false)
