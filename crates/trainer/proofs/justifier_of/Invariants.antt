-- `trainer::justifier_of` meets its contract: no place passed so far justifies the cell.
use mathlib.Core.Path.{◌≡◌}
use mathlib.Core.Bool.{true}
use Rattle.rules.specs.Words.{every}
use Rattle.trainer.proofs.Firsts.{misses}
use Rattle.trainer.proofs.Hints.{beside}
use Rattle.trainer.proofs.justifier_of.Given as goal

abbrev pub invariant-loop-k : goal.invariant-loop-k
invariant-loop-k l = every (misses (beside l.rows l.columns l.shown l.cell)) l.k ≡ true
