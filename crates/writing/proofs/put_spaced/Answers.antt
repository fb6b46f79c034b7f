-- `writing::put_spaced` meets its contract. The invariant: the numbers not yet taken, written from here on, make the whole text.
use mathlib.Core.Path.{refl}
use Rattle.writing.proofs.Putting.{leads_start, leads_room, leads_turn, leads_done}
use Rattle.writing.proofs.Spaced.{spaced_turn, spaced_done}
use Rattle.writing.proofs.put_spaced.Goals as goal

pub loop-n-init : goal.loop-n-init
loop-n-init c = leads_start

pub put_number-o-requires : goal.put_number-o-requires
put_number-o-requires c = leads_room _ _ c.requires c.loop-n.invariant (spaced_turn _ _ refl c.loop-n-test.true)

pub loop-n-preserved : goal.loop-n-preserved
loop-n-preserved c = leads_turn _ _ c.loop-n.invariant (spaced_turn _ _ refl c.loop-n-test.true) c.put_number-o.ensures

pub shape_of-out : goal.shape_of-out
shape_of-out c = c.loop-n.invariant.long

pub returns : goal.returns
returns c = leads_done c.loop-n.invariant (spaced_done _ _ c.loop-n-test.false)
