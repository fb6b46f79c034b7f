-- `mark_mine`: a safe cell, or a mine, whose bit was set or clear.
use Rattle.marking.proofs.Marks.{marked_safe, marked_mine}
use Rattle.marking.proofs.mark_mine.Goals as goal

pub returns-then-f-ne15 : goal.returns-then-f-ne15
returns-then-f-ne15 c = marked_safe _ _ _ _ c.face_at-f.ensures c.if-f-ne15.true

pub returns : goal.returns
returns c = marked_mine _ _ _ _ c.face_at-f.ensures c.if-f-ne15.false _ c.test_bit-had.ensures _ c.set_bit.ensures c.from.ensures
