-- `closed_around`: after k places the list holds the closed ones among the first k neighbours.
use mathlib.Core.Path.{◌≡◌}
use Prim.Native.Nat.{◌≤◌, ◌*◌}
use native.Mathlib.Omega.{arith}
use Rattle.cells.proofs.Grid.{cell_before_le}
use Rattle.cells.proofs.Grid.{on_grid}
use Rattle.chords.proofs.Gather.{collected_none, collected_more, collected_same}
use Rattle.chords.proofs.closed_around.Goals.{then-closed, else-closed}
use Rattle.chords.proofs.closed_around.Goals as goal

pub loop-k-init : goal.loop-k-init
loop-k-init c = rw c.new-found.ensures (collected_none _ _ _ _)

pub neighbour_at-q-requires : goal.neighbour_at-q-requires
neighbour_at-q-requires c = record { sized = c.requires.sized; row_lt_rows = on_grid _ _ _ c.requires.sized.column c.requires.cell_bound; k_bound = omega arith }

pub push-requires : goal.push-requires
push-requires c = omega (arith, c.loop-k.invariant.most)

pub loop-k-preserved : goal.loop-k-preserved
loop-k-preserved c = elim c.if-closed.branch [
  | then-closed w ↦ rw w.found-is (collected_more _ _ _ _ _ _ _ c.requires.sized.column c.loop-k.invariant c.neighbour_at-q.ensures c.closed.ensures w.if-closed.true _ w.push.ensures)
  | else-closed w ↦ rw w.found-is (collected_same _ _ _ _ _ _ _ c.requires.sized.column c.loop-k.invariant c.neighbour_at-q.ensures c.closed.ensures w.if-closed.false)
]

pub overflow_cast-q : goal.overflow_cast-q
overflow_cast-q c = let a = c.args in
    let b : c.neighbour_at-q.result ≤ a.rows * a.columns = rw c.neighbour_at-q.ensures (cell_before_le a.rows a.columns _ _) in omega (arith, c.requires.sized.cells)

pub returns : goal.returns
returns c = let e : c.loop-k.k ≡ 8 = omega arith in rw e at c.loop-k.invariant
