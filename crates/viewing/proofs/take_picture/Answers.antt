-- `viewing::take_picture` meets its contract: a refusal leaves the room as it was; what is taken has passed every test.
use Rattle.rules.specs.declared.Refusal.TheVariants.{Length}
use Rattle.std.proofs.lemmas.Result.{err_from_is_err_and}
use Rattle.viewing.proofs.Viewing.{read_refused, read_unfit, read_no_head, read_judged, read_may_take, read_taken}
use Rattle.viewing.proofs.take_picture.Goals as goal

pub returns-then-cells-ne2048 : goal.returns-then-cells-ne2048
returns-then-cells-ne2048 c = let args = c.args in read_refused args.bytes.now args.cells.now Length (read_unfit args.bytes.now args.cells.now c.if-cells-ne2048.true)

pub returns-in_err-head : goal.returns-in_err-head
returns-in_err-head c = let args = c.args in
    let p = err_from_is_err_and c.from_residual.result c.from_residual.ensures.1 in
    rw (p.1, p.2) (read_refused args.bytes.now args.cells.now _ (read_no_head args.bytes.now args.cells.now c.if-cells-ne2048.false c.in_err-head.ensures))

pub returns-in_err-cells_fault : goal.returns-in_err-cells_fault
returns-in_err-cells_fault c = let args = c.args in
    let p = err_from_is_err_and c.from_residual-in_err-cells_fault.result c.from_residual-in_err-cells_fault.ensures.1 in
    rw (p.1, p.2)
    (read_refused args.bytes.now args.cells.now _
    (read_judged args.bytes.now args.cells.now c.if-cells-ne2048.false c.in_ok-head.ensures c.cell_count-n.ensures.0 c.in_err-cells_fault.ensures))

pub take_cells-requires : goal.take_cells-requires
take_cells-requires c = let args = c.args in
    read_may_take args.bytes.now args.cells.now c.if-cells-ne2048.false c.in_ok-head.ensures c.cell_count-n.ensures.0 c.in_ok-cells_fault.ensures

pub returns : goal.returns
returns c = let args = c.args in
    read_taken args.bytes.now args.cells.now c.if-cells-ne2048.false c.in_ok-head.ensures c.cell_count-n.ensures.0 c.in_ok-cells_fault.ensures c.take_cells.ensures
