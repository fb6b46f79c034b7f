-- `chording::none_inside` meets its contract. The loop: none before this one is useful, or it says no.
use mathlib.Core.Bool.{not}
use mathlib.Core.Path.{◌≡◌}
use Prim.Native.Nat.{◌+◌, ◌-◌, ◌≤◌}
use Rattle.rules.specs.Words.{every}
use Rattle.chording.specs.Seeking.{useful_inside}
use Rattle.chording.proofs.none_inside.Given as goal

abbrev pub invariant-loop-k : goal.invariant-loop-k
invariant-loop-k l = (l.k ≤ l.k-end) × (l.none ≡ every (λ j. not (useful_inside l.columns l.shown (l.above + j))) l.k)

abbrev pub decreases-loop-k : goal.decreases-loop-k
decreases-loop-k l = l.k-end - l.k
