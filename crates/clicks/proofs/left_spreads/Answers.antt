-- `left_spreads`: the counts, then the cell by itself is opened.
use Rattle.clicks.proofs.Steps.{spread_asks, spread_done}
use Rattle.clicks.proofs.left_spreads.Goals as goal

pub open_cells-requires : goal.open_cells-requires
open_cells-requires c = let whole = spread_asks _ _ _ _ _ _ _ c.spread_counts-z.ensures c.requires.laid_at c.requires.cell_bound in record { laid_at = whole.0; below = rw c.only.ensures whole.1.1 }

pub returns : goal.returns
returns c = spread_done _ _ _ _ _ _ _ c.spread_counts-z.ensures _ _ _ (rw c.only.ensures at c.open_cells.ensures)
