-- `viewing::take_cells` meets its contract: the cells not yet taken, written from here on, make the whole.
use Rattle.viewing.proofs.Cells.{filling_start, filling_ok, filling_byte, filling_turn, filling_done, found_of}
use Rattle.viewing.proofs.take_cells.Goals as goal

pub loop-i-init : goal.loop-i-init
loop-i-init c = filling_start _ _ _ c.args.from c.requires

pub unwrap-cell-requires : goal.unwrap-cell-requires
unwrap-cell-requires c = filling_ok _ _ _ c.args.from c.requires c.loop-i.invariant c.loop-i-test.true _ c.cell_at.ensures

pub put_byte-requires : goal.put_byte-requires
put_byte-requires c = let cell = found_of _ _ _ _ c.cell_at.ensures c.unwrap-cell.ensures in
    filling_byte _ _ _ c.args.from c.requires c.loop-i.invariant c.loop-i-test.true cell

pub loop-i-preserved : goal.loop-i-preserved
loop-i-preserved c = let cell = found_of _ _ _ _ c.cell_at.ensures c.unwrap-cell.ensures in
    filling_turn _ _ _ c.args.from c.requires c.loop-i.invariant c.loop-i-test.true cell c.put_byte.ensures

pub shape_of-cells : goal.shape_of-cells
shape_of-cells c = c.loop-i.invariant.leads.long

pub returns : goal.returns
returns c = filling_done _ _ _ c.args.from c.requires c.loop-i.invariant c.loop-i-test.false
