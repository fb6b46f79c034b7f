-- `viewing::take_cells` meets its contract: the cells not yet taken, written from here on, make the whole.
use lib.ListN.{drop}
use Rattle.rules.specs.Picture.{cell_values}
use Rattle.viewing.proofs.Cells.{Filling}
use Rattle.viewing.proofs.take_cells.Given as goal

abbrev pub invariant-loop-i : goal.invariant-loop-i
invariant-loop-i l = Filling l.s l.n (cell_values l.n (drop l.from l.s)) l.initial.cells l.cells l.at l.i
