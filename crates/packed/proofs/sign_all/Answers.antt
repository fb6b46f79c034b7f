-- `packed::sign_all` meets its contract. The invariant: the cells passed are signed.
use native.Mathlib.Omega.{arith}
use Rattle.packed.proofs.Signs.{signing_start, signing_turn, signing_done}
use Rattle.packed.proofs.sign_all.Goals as goal

pub loop-i-init : goal.loop-i-init
loop-i-init c = signing_start c.requires

pub bounds-mines-i : goal.bounds-mines-i
bounds-mines-i c = omega arith

pub loop-i-preserved : goal.loop-i-preserved
loop-i-preserved c = signing_turn c.loop-i.invariant c.cast_signed.ensures (c.type_inv.bytes _) c.loop-i-test.true

pub shape_of-mines : goal.shape_of-mines
shape_of-mines c = omega arith

pub returns : goal.returns
returns c = signing_done c.loop-i.invariant c.loop-i-test.false
