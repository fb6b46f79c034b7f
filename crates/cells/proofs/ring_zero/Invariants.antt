-- `cells::ring_zero` meets its contract. The loop: whether a place before this one is a 0.
use Prim.Native.Nat.{◌≤◌, ◌-◌}
use mathlib.Core.Path.{◌≡◌}
use lib.Dec.{leb}
use Rattle.rules.specs.Words.{count}
use Rattle.cells.specs.Ground.{ring_at, face_is}
use Rattle.cells.proofs.ring_zero.Given as goal

abbrev pub invariant-loop-k : goal.invariant-loop-k
invariant-loop-k l = (l.k ≤ 8) × (l.any ≡ leb 1 (count (λ j. face_is l.mines 0 (ring_at l.columns l.first j)) l.k))

abbrev pub decreases-loop-k : goal.decreases-loop-k
decreases-loop-k l = 8 - l.k
