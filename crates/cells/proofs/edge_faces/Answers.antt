-- `cells::edge_faces` meets its contract.
use Prim.Native.Nat.{ℕ, ◌+◌}
use mathlib.Core.Path.{refl, ap, ◌∙◌}
use native.Mathlib.Omega.{arith}
use Rattle.cells.proofs.Words.{byte_bit}
use Rattle.rules.specs.Words.{bit, count}
use Rattle.cells.specs.Ground.{face_is}
use Rattle.cells.proofs.Grid.{around_turn, around_done}
use Rattle.cells.proofs.edge_faces.Goals as goal

pub loop-k-init : goal.loop-k-init
unfolding count
loop-k-init c = (omega arith, refl, omega arith)

pub overflow_add-n : goal.overflow_add-n
overflow_add-n c = omega (arith, (byte_bit _ c.from-one.ensures).1)

pub loop-k-preserved : goal.loop-k-preserved
loop-k-preserved c = let a = c.args in
    (omega arith, around_turn a.rows a.columns a.row a.column (face_is a.mines.now a.f) _ _ _ _ c.requires.row_lt_rows.1 c.neighbour_at-q.ensures c.loop-k.invariant.1 (ap (λ (x : ℕ). c.loop-k.n + x) ((byte_bit _ c.from-one.ensures).0 ∙ ap bit c.has_face.ensures)), omega (arith, (byte_bit _ c.from-one.ensures).1))

pub returns : goal.returns
returns c = let a = c.args in (around_done a.rows a.columns _ (face_is a.mines.now a.f) _ _ (omega arith) c.loop-k.invariant.1, omega arith)
