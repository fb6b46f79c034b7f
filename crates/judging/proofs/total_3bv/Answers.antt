-- `judging::total_3bv`: where nothing is shown, all is left to solve.
use Rattle.judging.proofs.Solving.{total_left}
use Rattle.judging.proofs.total_3bv.Goals as goal

pub returns : goal.returns
returns c = total_left _ _ _ c.left_to_solve.ensures
