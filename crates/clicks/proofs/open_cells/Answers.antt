-- `clicks::open_cells` meets its contract.
use Rattle.clicks.proofs.Ends.{opened_ends}
use Rattle.clicks.proofs.open_cells.Goals as goal

pub refresh_board-o-requires : goal.refresh_board-o-requires
refresh_board-o-requires c = record { laid = rw (c.from-rows.ensures, c.from-columns.ensures) c.requires.laid_at; below = rw (c.from-rows.ensures, c.from-columns.ensures) c.requires.below }

pub returns : goal.returns
returns c = opened_ends _ _ _ _ _ _ _ _ _ _ (rw (c.from-rows.ensures, c.from-columns.ensures) at c.refresh_board-o.ensures) c.end_opening.ensures
