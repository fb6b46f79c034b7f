-- `boards::some_safe` meets its contract: the cells before `i` are mines; the first that is none answers for all. Assumes nothing.
use mathlib.Core.Path.{◌≡◌}
use mathlib.Core.Bool.{true}
use Rattle.rules.specs.Board.{mine_at}
use Rattle.rules.specs.Words.{every}
use Rattle.boards.proofs.some_safe.Given as goal

abbrev pub invariant-loop-i : goal.invariant-loop-i
invariant-loop-i l = every (mine_at l.mines) l.i ≡ true
