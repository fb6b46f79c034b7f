-- `writing::put_cells` meets its contract. The invariant: the cells not yet taken, written from here on, make the whole text.
use Rattle.writing.proofs.Putting.{leads_start, leads_room, leads_turn, leads_done}
use Rattle.writing.proofs.Spaced.{spaced_turn, spaced_done}
use Rattle.writing.proofs.put_cells.Goals as goal

pub loop-cell-init : goal.loop-cell-init
loop-cell-init c = leads_start

pub put_number-o-requires : goal.put_number-o-requires
put_number-o-requires c = leads_room _ _ c.requires c.loop-cell.invariant (spaced_turn _ _ c.from.ensures c.loop-cell-test.true)

pub loop-cell-preserved : goal.loop-cell-preserved
loop-cell-preserved c = leads_turn _ _ c.loop-cell.invariant (spaced_turn _ _ c.from.ensures c.loop-cell-test.true) c.put_number-o.ensures

pub shape_of-out : goal.shape_of-out
shape_of-out c = c.loop-cell.invariant.long

pub returns : goal.returns
returns c = leads_done c.loop-cell.invariant (spaced_done _ _ c.loop-cell-test.false)
