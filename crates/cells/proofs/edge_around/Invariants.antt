-- `cells::edge_around` meets its contract.
use Prim.Native.Nat.{◌≤◌, ◌-◌}
use mathlib.Core.Path.{◌≡◌}
use Rattle.rules.specs.Words.{count}
use Rattle.rules.specs.Grid.{cell_of, neighbour}
use Rattle.rules.specs.Opening.{closed_at}
use Rattle.rules.specs.Clicks.{flag_at}
use Rattle.cells.proofs.edge_around.Given as goal

abbrev pub invariant-loop-k : goal.invariant-loop-k
invariant-loop-k l = (l.k ≤ 8) × (l.seen.flags ≡ count (λ j. flag_at l.shown (neighbour l.rows l.columns (cell_of l.columns l.row l.column) j)) l.k) × (l.seen.closed ≡ count (λ j. closed_at l.shown (neighbour l.rows l.columns (cell_of l.columns l.row l.column) j)) l.k) × (l.seen.flags ≤ l.k) × (l.seen.closed ≤ l.k)

abbrev pub decreases-loop-k : goal.decreases-loop-k
decreases-loop-k l = 8 - l.k
