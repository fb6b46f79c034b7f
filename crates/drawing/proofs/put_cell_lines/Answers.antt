-- `drawing::put_cell_lines` meets its contract: the cells not yet taken, written from here on, make the whole text.
use Rattle.writing.proofs.Putting.{leads_start, leads_room, leads_turn, leads_done}
use Rattle.drawing.proofs.Plain.{lines_turn, lines_done}
use Rattle.drawing.proofs.put_cell_lines.Goals as goal

pub loop-v-init : goal.loop-v-init
loop-v-init c = leads_start

pub put_number_line-o-requires : goal.put_number_line-o-requires
put_number_line-o-requires c = leads_room _ _ c.requires c.loop-v.invariant (lines_turn _ _ c.from.ensures c.loop-v-test.true)

pub loop-v-preserved : goal.loop-v-preserved
loop-v-preserved c = leads_turn _ _ c.loop-v.invariant (lines_turn _ _ c.from.ensures c.loop-v-test.true) c.put_number_line-o.ensures

pub shape_of-out : goal.shape_of-out
shape_of-out c = c.loop-v.invariant.long

pub returns : goal.returns
returns c = leads_done c.loop-v.invariant (lines_done _ _ c.loop-v-test.false)
