-- `lones::lone_cells`: the invariant is the lone numbers of the cells so far.
use mathlib.Core.Path.{◌≡◌}
use native.Mathlib.Omega.{arith}
use lib.ListN.{length}
use Rattle.rules.specs.Cells.{cell_list}
use Rattle.cells.proofs.Stack.{listed_few}
use Rattle.cells.proofs.Words.{below_at, byte_bit}
use Rattle.lones.proofs.Lones.{cells_none, cells_more, cells_few, cells_done}
use Rattle.lones.proofs.lone_cells.Goals as goal

pub loop-cell-init : goal.loop-cell-init
loop-cell-init c = cells_none _ _ _ _

pub cell_is_bbbv-lone-requires : goal.cell_is_bbbv-lone-requires
cell_is_bbbv-lone-requires c = record { mined = c.requires.mined; cell_bound = rw c.from-q.ensures (below_at _ _ (rw c.as_slice-given.ensures c.requires.below) c.loop-cell.cell-index c.loop-cell-test.true) }

pub overflow_add-sum : goal.overflow_add-sum
overflow_add-sum c = let b = cells_few _ _ _ _ _ (cells_more _ _ _ _ _ _ _ _ _ c.loop-cell.invariant c.from-q.ensures c.cell_is_bbbv-lone.ensures (byte_bit _ c.from-sum.ensures).0) in omega (arith, b)

pub loop-cell-preserved : goal.loop-cell-preserved
loop-cell-preserved c = cells_more _ _ _ _ _ _ _ _ _ c.loop-cell.invariant c.from-q.ensures c.cell_is_bbbv-lone.ensures (byte_bit _ c.from-sum.ensures).0

pub returns : goal.returns
returns c = let e : c.loop-cell.cell-index ≡ length (cell_list c.args.cells) = rw (← c.as_slice-given.ensures) (omega arith) in cells_done _ _ _ _ _ _ (listed_few c.args.cells) (rw e at rw c.as_slice-given.ensures at c.loop-cell.invariant)
