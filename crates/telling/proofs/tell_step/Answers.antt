use native.Mathlib.Omega.{arith}
use Rattle.telling.proofs.Telling.{step_told}
use Rattle.telling.proofs.tell_step.Goals as goal

pub put_outcome-requires : goal.put_outcome-requires
put_outcome-requires c = omega arith

pub returns : goal.returns
returns c = let a = c.args in
    step_told a.head.now a.bytes.now a.shown.now a.bits.now a.work.now c.from.ensures c.sign_all.ensures c.position_in-p.ensures c.play-a.ensures
    c.play-a.auto.shown c.play-a.auto.bits c.put_outcome.ensures
