-- `numbering::number_cells` meets its contract: the first `i` cells are numbered, and the board stays one of its size and values. Assumes nothing.
use mathlib.Core.Path.{refl}
use native.Mathlib.Omega.{arith}
use Rattle.numbering.specs.Numbering.{number_first}
use Rattle.numbering.proofs.Numbering.{number_first_more, number_first_end, number_one_mined}
use Rattle.numbering.proofs.number_cells.Goals as goal

pub loop-i-init : goal.loop-i-init
unfolding number_first
loop-i-init c = (c.requires, refl)

pub number_cell-requires : goal.number_cell-requires
number_cell-requires c = record { mined = c.loop-i.invariant.0; cell_bound = omega (arith, c.loop-i.invariant.0.long) }

pub loop-i-preserved : goal.loop-i-preserved
loop-i-preserved c = (
  rw c.number_cell.ensures
      (number_one_mined _ _ c.loop-i.mines c.loop-i.i c.loop-i.invariant.0 (omega (arith, c.loop-i.invariant.0.long))),
  number_first_more _ _ _ _ _ _
      c.loop-i.invariant.1 c.number_cell.ensures,
)

pub shape_of-mines : goal.shape_of-mines
shape_of-mines c = omega (arith, c.loop-i.invariant.0.long, c.requires.long)

pub returns : goal.returns
returns c = number_first_end _ _ _ _ _ c.loop-i.invariant.1 (omega (arith, c.loop-i.invariant.0.long))
