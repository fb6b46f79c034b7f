-- `spread_counts`: a mine counts nothing, a 0 is judged on the board as it is before opening.
use Rattle.clicks.proofs.Steps.{spread_mine, spread_zero}
use Rattle.clicks.proofs.spread_counts.Goals as goal

pub returns-then-face-eq15 : goal.returns-then-face-eq15
returns-then-face-eq15 c = spread_mine _ _ _ _ _ _ c.requires.spreads_at c.if-face-eq15.true

pub cell_is_op_completed-solves-requires : goal.cell_is_op_completed-solves-requires
cell_is_op_completed-solves-requires c = record { laid = rw (c.from-rows.ensures, c.from-columns.ensures) c.requires.laid_at; cell_bound = rw (c.from-rows.ensures, c.from-columns.ensures) c.requires.cell_bound }

pub returns : goal.returns
returns c = spread_zero _ _ _ _ _ _ c.requires.spreads_at c.if-face-eq15.false _ _ _ (rw (c.from-rows.ensures, c.from-columns.ensures) at c.cell_is_op_completed-solves.ensures) c.left_counts.ensures
