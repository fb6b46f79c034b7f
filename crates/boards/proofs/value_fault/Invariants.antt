-- `boards::value_fault` meets its contract: the values before `cell` are right. Assumes nothing.
use mathlib.Core.Path.{◌≡◌}
use mathlib.Core.Bool.{true}
use Rattle.rules.specs.Board.{value_ok_at}
use Rattle.rules.specs.Words.{every}
use Rattle.boards.proofs.value_fault.Given as goal

abbrev pub invariant-loop-cell : goal.invariant-loop-cell
invariant-loop-cell l = every (value_ok_at l.mines) l.cell ≡ true
