-- `lones::cell_is_bbbv`: the cell is that of its row and column.
use Rattle.cells.proofs.Grid.{on_grid}
use Rattle.lones.proofs.Lones.{lone_cell}
use Rattle.lones.proofs.cell_is_bbbv.Goals as goal

pub lone_at-requires : goal.lone_at-requires
lone_at-requires c = let a = c.args in record { mined = c.requires.mined; row_lt_rows = on_grid a.rows a.columns a.cell c.requires.mined.sized.column c.requires.cell_bound }

pub returns : goal.returns
returns c = lone_cell _ _ _ _ c.lone_at.ensures
