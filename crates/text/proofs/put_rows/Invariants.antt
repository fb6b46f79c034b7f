-- `text::put_rows` meets its contract. The invariant: the rows not yet taken, written from here on, make the whole text.
use Rattle.text.proofs.Rows.{Going}
use Rattle.text.proofs.put_rows.Given as goal

abbrev pub invariant-loop-row : goal.invariant-loop-row
invariant-loop-row l = Going l.rows l.columns l.shown l.at l.initial.out l.out l.o l.row-iterator.size l.row-iterator.rest.now
