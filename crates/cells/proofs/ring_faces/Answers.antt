-- `cells::ring_faces` meets its contract.
use Prim.Native.Nat.{◌<◌}
use native.Mathlib.Omega.{arith}
use borrow.Author.Rules.{rules}
use lib.ListN.{length}
use Rattle.cells.specs.Ground.{ring_at, face_is}
use Rattle.cells.proofs.Grid.{ring_le}
use Rattle.cells.proofs.Face.{face_on}
use Rattle.cells.proofs.ring_faces.Goals as goal

pub ring_count-requires-clause-callable : goal.ring_count-requires-clause-callable
ring_count-requires-clause-callable c = λ k h.
    let b : ring_at c.args.columns c.args.first k < length c.args.mines.now = omega (arith, ring_le c.args.columns c.args.first k h, c.requires.columns_in_bounds) in search rules

pub returns : goal.returns
returns c = (
  c.ring_count.ensures.counted (face_is c.args.mines.now c.args.f) (λ k h b post.
      let on : ring_at c.args.columns c.args.first k < length c.args.mines.now = omega (arith, ring_le c.args.columns c.args.first k h, c.requires.columns_in_bounds) in
      rw (face_on c.args.mines.now c.args.f (ring_at c.args.columns c.args.first k) on) (search (rules, post))),
  c.ring_count.ensures.few,
)
