-- `judging::free`: on the board the mark tells, off it nothing is free.
use Rattle.judging.proofs.Marks.{free_on, free_off}
use Rattle.judging.proofs.free.Goals as goal

pub returns-then-q-size : goal.returns-then-q-size
returns-then-q-size c = free_on _ _ c.requires.size_in_bounds _ c.if-q-size.true

pub returns-else-q-size : goal.returns-else-q-size
returns-else-q-size c = free_off _ _ c.requires.size_in_bounds _ c.if-q-size.false
