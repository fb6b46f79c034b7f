-- `boards::number_fault` meets its contract: the rows before `row` are right. Assumes nothing.
use mathlib.Core.Path.{◌≡◌}
use mathlib.Core.Bool.{true}
use Prim.Native.Nat.{◌*◌}
use Rattle.rules.specs.Words.{every}
use Rattle.rules.specs.Board.{number_ok}
use Rattle.boards.proofs.number_fault.Given as goal

abbrev pub invariant-loop-row : goal.invariant-loop-row
invariant-loop-row l = every (number_ok l.mines l.rows l.columns) (l.row * l.columns) ≡ true
