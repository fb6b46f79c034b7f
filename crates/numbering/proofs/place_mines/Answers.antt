-- `numbering::place_mines` meets its contract: the first `n` mines are placed. Assumes nothing.
use mathlib.Core.Path.{refl}
use native.Mathlib.Omega.{arith}
use Rattle.numbering.specs.Numbering.{placed}
use Rattle.numbering.proofs.Numbering.{placed_more, placed_end}
use Rattle.numbering.proofs.place_mines.Goals as goal

pub loop-n-init : goal.loop-n-init
unfolding placed
loop-n-init c = refl

pub slice_set_of-mines : goal.slice_set_of-mines
slice_set_of-mines c = let h = c.requires _ c.loop-n-test.true in omega (arith, c.mine_cell-cell.ensures.0)

pub loop-n-preserved : goal.loop-n-preserved
loop-n-preserved c = placed_more _ _ _ _ _ _ c.loop-n.invariant c.mine_cell-cell.ensures.0

pub returns : goal.returns
returns c = placed_end _ _ _ _ _ _ c.loop-n.invariant (omega arith)
