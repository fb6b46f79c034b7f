-- `opening::spread_top` meets its contract: the cell that is taken apart into row and column is the one on top. Assumes nothing.
use mathlib.Core.Path.{◌∙◌}
use lib.ListN.{length-set}
use Rattle.cells.proofs.Grid.{on_grid}
use Rattle.opening.proofs.Touching.{seated_popped, around_back}
use Rattle.opening.proofs.spread_top.Goals as goal

pub touch_around-requires : goal.touch_around-requires
touch_around-requires c = record { seated = seated_popped _ _ _ _ _ _ c.requires.seated; row_lt_rows = on_grid _ _ _ c.requires.seated.sized.column (rw c.from-cell.ensures c.requires.top_bound); opened_bound = c.requires.opened_bound }

pub shape_of-work : goal.shape_of-work
shape_of-work c = c.touch_around.auto.work ∙ simp length-set

pub returns : goal.returns
returns c = (around_back _ _ _ _ _ _ _ _ _ _ _ (rw c.from-cell.ensures at c.touch_around.ensures.0), c.touch_around.ensures.1)
