-- `trainer::offered_cell` meets its contract: no cell passed so far is offered.
use mathlib.Core.Path.{◌≡◌}
use mathlib.Core.Bool.{true}
use Rattle.rules.specs.Words.{every}
use Rattle.rules.specs.Trainer.{offered}
use Rattle.trainer.proofs.Firsts.{misses}
use Rattle.trainer.proofs.offered_cell.Given as goal

abbrev pub invariant-loop-i : goal.invariant-loop-i
invariant-loop-i l = every (misses (offered l.rows l.columns l.shown)) l.i ≡ true
