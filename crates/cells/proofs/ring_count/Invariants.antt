-- `cells::ring_count` meets its contract. The loop: the places before this one are counted.
use Prim.Native.Nat.{ℕ, ◌<◌, ◌≤◌}
use mathlib.Core.Path.{◌≡◌}
use mathlib.Core.Bool.{Bool}
use Rattle.rules.specs.Words.{count}
use Rattle.cells.specs.Ground.{ring_at}
use Rattle.cells.proofs.ring_count.Given as goal

abbrev pub invariant-loop-k : goal.invariant-loop-k
invariant-loop-k g l = (l.n ≤ l.k) × ((p : ℕ → Bool) → ((k : ℕ) → k < 8 → (b : Bool) → goal.F-post g l.test (ring_at l.columns l.first k) b → b ≡ p (ring_at l.columns l.first k)) → l.n ≡ count (λ j. p (ring_at l.columns l.first j)) l.k)
