-- `writing::put_cells` meets its contract. The invariant: the cells not yet taken, written from here on, make the whole text.
use lib.ListN.{drop}
use Rattle.rules.specs.Printout.{spaced}
use Rattle.writing.proofs.Putting.{Leads}
use Rattle.writing.proofs.put_cells.Given as goal

abbrev pub invariant-loop-cell : goal.invariant-loop-cell
invariant-loop-cell l = Leads (spaced l.cells) l.at l.initial.out (spaced (drop l.cell-index l.cells)) l.o l.out
