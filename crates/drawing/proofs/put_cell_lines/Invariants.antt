-- `drawing::put_cell_lines` meets its contract: the cells not yet taken, written from here on, make the whole text.
use lib.ListN.{drop}
use Rattle.writing.proofs.Putting.{Leads}
use Rattle.rules.specs.Picture.{number_lines}
use Rattle.drawing.proofs.put_cell_lines.Given as goal

abbrev pub invariant-loop-v : goal.invariant-loop-v
invariant-loop-v l = Leads (number_lines l.shown) l.at l.initial.out (number_lines (drop l.v-index l.shown)) l.o l.out
