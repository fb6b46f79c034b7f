-- `lones::lone_row`: the invariant is the lone numbers of the row before the column.
use mathlib.Core.Path.{◌≡◌}
use native.Mathlib.Omega.{arith}
use Rattle.lones.proofs.Lones.{row_none, row_more}
use Rattle.cells.proofs.Words.{byte_bit}
use Rattle.lones.proofs.lone_row.Goals as goal

pub loop-column-init : goal.loop-column-init
loop-column-init c = (omega arith, row_none _ _ _ _ _)

pub lone_left-lone-requires : goal.lone_left-lone-requires
lone_left-lone-requires c = record { mined = c.requires.mined; row_lt_rows = (c.requires.row_lt_rows, c.loop-column-test.true) }

pub overflow_add-sum : goal.overflow_add-sum
overflow_add-sum c = omega (arith, (row_more _ _ _ _ _ _ _ _ _ c.loop-column.invariant.1 c.lone_left-lone.ensures (byte_bit _ c.from-sum.ensures).0).few, c.requires.mined.sized.columns64)

pub loop-column-preserved : goal.loop-column-preserved
loop-column-preserved c = (omega arith, row_more _ _ _ _ _ _ _ _ _ c.loop-column.invariant.1 c.lone_left-lone.ensures (byte_bit _ c.from-sum.ensures).0)

pub returns : goal.returns
returns c = let e : c.loop-column.column ≡ c.args.columns = omega arith in rw e at c.loop-column.invariant.1
