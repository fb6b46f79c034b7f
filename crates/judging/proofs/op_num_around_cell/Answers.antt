-- `judging::op_num_around_cell`: the tally's count; the work is cleared where a walk was made, and untouched where none was.
use Rattle.cells.proofs.Stack.{listed_few}
use Rattle.judging.proofs.Tallying.{tallied_count, cleared}
use Rattle.judging.proofs.op_num_around_cell.Goals as goal

pub judge_cells-sum-requires : goal.judge_cells-sum-requires
judge_cells-sum-requires c = record {
  walkable = record { mined = c.requires.laid.fits.mined; room = c.requires.laid.fits.room };
  zeros = c.requires.laid.zeros;
  n_bound = rw c.as_slice.ensures (listed_few c.args.cells);
  below = rw c.as_slice.ensures c.requires.below;
}

pub returns-then-sum : goal.returns-then-sum
returns-then-sum c = record {
  outcome = tallied_count _ _ _ _ _ _ _ _ (rw c.as_slice.ensures at c.judge_cells-sum.ensures);
  same = cleared _ _ _ _ c.requires.laid.zeros c.judge_cells-sum.ensures.rest c.judge_cells-sum.ensures.long c.clear.ensures c.clear.auto.work;
}

pub returns-else-sum : goal.returns-else-sum
returns-else-sum c = record { outcome = tallied_count _ _ _ _ _ _ _ _ (rw c.as_slice.ensures at c.judge_cells-sum.ensures); same = c.judge_cells-sum.ensures.still c.if-sum.false }
