-- `lones::lone_number`: a number is lone exactly if no 0 is beside it.
use Rattle.cells.proofs.Grid.{cell_lt}
use Rattle.lones.proofs.Lones.{lone_number}
use Rattle.lones.proofs.lone_number.Goals as goal

pub returns : goal.returns
returns c = lone_number _ _ _ _ c.requires.mined (cell_lt _ _ _ _ c.requires.row_lt_rows.0 c.requires.row_lt_rows.1) c.requires.fact.0 c.requires.fact.1 _ c.zero_beside-beside.ensures
