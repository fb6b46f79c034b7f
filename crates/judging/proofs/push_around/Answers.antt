-- `judging::push_around`: after k neighbours the stack is the definition's after k, and nothing above it has changed.
use mathlib.Core.Path.{◌≡◌, refl, ◌∙◌}
use Prim.Native.Nat.{◌≤◌, ◌*◌}
use native.Mathlib.Omega.{arith}
use Rattle.rules.specs.Grid.{pushed}
use Rattle.cells.proofs.Grid.{cell_before_le, on_grid}
use Rattle.cells.proofs.Stack.{grown_start}
use Rattle.judging.proofs.Marks.{grown_more, neighbour_of}
use Rattle.judging.proofs.push_around.Goals as goal

pub loop-k-init : goal.loop-k-init
unfolding pushed
loop-k-init c = (omega arith, grown_start _ _, refl)

pub neighbour_at-q-requires : goal.neighbour_at-q-requires
neighbour_at-q-requires c = let a = c.args in record { sized = c.requires.sized; row_lt_rows = on_grid a.rows a.columns a.cell c.requires.sized.column c.requires.cell_bound; k_bound = omega arith }

pub push_free-t-requires : goal.push_free-t-requires
push_free-t-requires c = let a = c.args in
    let b : c.neighbour_at-q.result ≤ a.rows * a.columns = rw c.neighbour_at-q.ensures (cell_before_le a.rows a.columns _ _) in record { size_bound = c.requires.sized.cells; size_in_bounds = rw c.loop-k.invariant.2 c.requires.columns_in_bounds; top_bound = omega (arith, c.loop-k.invariant.1.most, c.requires.top_bound); q_bound = omega (arith, c.requires.sized.cells) }

pub loop-k-preserved : goal.loop-k-preserved
loop-k-preserved c = (omega arith, grown_more _ _ _ _ _ _ _ _ _ _ _ c.requires.columns_in_bounds c.loop-k.invariant.2 (omega (arith, c.requires.top_bound)) c.loop-k.invariant.1 (neighbour_of _ _ _ _ c.neighbour_at-q.ensures) c.push_free-t.ensures, c.push_free-t.auto.work ∙ c.loop-k.invariant.2)

pub shape_of-work : goal.shape_of-work
shape_of-work c = c.loop-k.invariant.2

pub returns : goal.returns
returns c = let e : c.loop-k.k ≡ 8 = omega arith in rw e at c.loop-k.invariant.1
