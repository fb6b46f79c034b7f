-- `judging::cell_is_op_completed`: a walk on a work of zeros, which is cleared again.
use Rattle.judging.proofs.Tallying.{judged_left_lem, cleared}
use Rattle.judging.proofs.cell_is_op_completed.Goals as goal

pub returns : goal.returns
returns c = record {
  outcome = judged_left_lem _ _ _ _ _ _ _ _ c.requires.laid.fits.room c.requires.laid.zeros c.walk-whole.ensures;
  same = cleared _ _ _ _ c.requires.laid.zeros c.walk-whole.ensures.rest c.walk-whole.auto.work c.clear.ensures c.clear.auto.work;
}
