-- `flag`: the counts that the setters leave, with what the mark adds.
use native.Mathlib.Omega.{arith}
use Rattle.marking.proofs.flag.Goals as goal

pub overflow_add-n : goal.overflow_add-n
overflow_add-n c = omega (arith, c.requires.room_at.pass.flag)

pub overflow_add-k : goal.overflow_add-k
overflow_add-k c = omega (arith, c.mark_mine-new.ensures.one, c.requires.room_at.rce)

pub returns : goal.returns
returns c = simp (c.with_rce.ensures, c.with_flag-q.ensures, c.add_right-y.ensures, c.mark_mine-new.ensures.adds, c.mark_mine-new.ensures.after)
