-- `numbering::mine_cell` meets its contract: row times columns plus column, of the two bytes of the mine. Assumes nothing.
use native.Mathlib.Omega.{arith}
use Rattle.numbering.proofs.Numbering.{cell_is}
use Rattle.numbering.proofs.mine_cell.Goals as goal

pub returns : goal.returns
returns c = (cell_is c.args.columns _ c.cell_count.ensures.0 c.from.ensures, omega arith)
