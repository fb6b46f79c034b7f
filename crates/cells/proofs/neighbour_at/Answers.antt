-- `cells::neighbour_at` meets its contract.
use Rattle.cells.proofs.neighbour_at.Goals as goal

pub returns : goal.returns
returns c = rw (← c.ninth_of-j.ensures) c.cell_before.ensures
