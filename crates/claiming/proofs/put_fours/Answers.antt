use Rattle.writing.proofs.Putting.{leads_start, leads_room, leads_turn, leads_done}
use Rattle.claiming.proofs.Sections.{fours_turn, fours_done}
use Rattle.claiming.proofs.put_fours.Goals as goal

-- src/lib.rt:28:5
pub loop-n-init : goal.loop-n-init
loop-n-init c = leads_start

-- src/lib.rt:29:9
pub put_four-o-requires : goal.put_four-o-requires
put_four-o-requires c = leads_room _ _ c.requires c.loop-n.invariant (fours_turn _ _ c.loop-n-test.true)

-- src/lib.rt:28:5
pub loop-n-preserved : goal.loop-n-preserved
loop-n-preserved c = leads_turn _ _ c.loop-n.invariant (fours_turn _ _ c.loop-n-test.true) c.put_four-o.ensures

-- src/lib.rt:22:1
pub shape_of-out : goal.shape_of-out
shape_of-out c = c.loop-n.invariant.long

-- src/lib.rt:22:1
pub returns : goal.returns
returns c = leads_done c.loop-n.invariant (fours_done _ _ c.loop-n-test.false)
