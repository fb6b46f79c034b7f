-- `opening::cross_flags` meets its contract. The loop's invariant: the first i flags are crossed, and the cells from i on are as they were. Assumes nothing.
use mathlib.Core.Path.{◌≡◌}
use Rattle.rules.specs.Opening.{crossed}
use Rattle.opening.proofs.cross_flags.Given as goal

abbrev pub invariant-loop-i : goal.invariant-loop-i
invariant-loop-i l = l.shown ≡ crossed l.mines l.i l.initial.shown
