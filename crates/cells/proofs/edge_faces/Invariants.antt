-- `cells::edge_faces` meets its contract.
use Prim.Native.Nat.{◌≤◌, ◌-◌}
use mathlib.Core.Path.{◌≡◌}
use Rattle.rules.specs.Words.{count}
use Rattle.rules.specs.Grid.{cell_of, neighbour}
use Rattle.cells.specs.Ground.{face_is}
use Rattle.cells.proofs.edge_faces.Given as goal

abbrev pub invariant-loop-k : goal.invariant-loop-k
invariant-loop-k l = (l.k ≤ 8) × (l.n ≡ count (λ j. face_is l.mines l.f (neighbour l.rows l.columns (cell_of l.columns l.row l.column) j)) l.k) × (l.n ≤ l.k)

abbrev pub decreases-loop-k : goal.decreases-loop-k
decreases-loop-k l = 8 - l.k
