-- `book::read_mines` meets its contract. The invariant: n mines are read and right, and what is left to read is what the section says.
use Rattle.book.proofs.Reading.{Reached}
use Rattle.book.proofs.read_mines.Given as goal

abbrev pub invariant-loop-n : goal.invariant-loop-n
invariant-loop-n l = Reached l.s l.at l.settings l.mines l.place l.next l._n
