-- `numbering::mines_ok` meets its contract: the mines before `n` are right; the first that is not answers for all. Assumes nothing.
use mathlib.Core.Path.{◌≡◌}
use mathlib.Core.Bool.{true}
use Rattle.rules.specs.Words.{every}
use Rattle.rules.specs.Board.{mine_ok}
use Rattle.numbering.proofs.mines_ok.Given as goal

abbrev pub invariant-loop-n : goal.invariant-loop-n
invariant-loop-n l = every (mine_ok l.rows l.columns l.list) l.n ≡ true
