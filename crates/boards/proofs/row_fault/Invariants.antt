-- `boards::row_fault` meets its contract: the numbers of the row before `column` are right. Assumes nothing.
use mathlib.Core.Path.{◌≡◌}
use mathlib.Core.Bool.{true}
use Rattle.rules.specs.Words.{every}
use Rattle.rules.specs.Grid.{cell_of}
use Rattle.rules.specs.Board.{number_ok}
use Rattle.boards.proofs.row_fault.Given as goal

abbrev pub invariant-loop-column : goal.invariant-loop-column
invariant-loop-column l = every (λ j. number_ok l.mines l.rows l.columns (cell_of l.columns l.row j)) l.column ≡ true
