-- `cells::ring_shows` meets its contract.
use Prim.Native.Nat.{◌<◌}
use native.Mathlib.Omega.{arith}
use borrow.Author.Rules.{rules}
use lib.ListN.{length}
use Rattle.cells.specs.Ground.{ring_at}
use Rattle.cells.proofs.Grid.{ring_le}
use Rattle.cells.proofs.ring_shows.Goals as goal

pub ring_count-requires-clause-callable : goal.ring_count-requires-clause-callable
ring_count-requires-clause-callable c = λ k h.
    let b : ring_at c.args.columns c.args.first k < length c.args.shown.now = omega (arith, ring_le c.args.columns c.args.first k h, c.requires.columns_in_bounds) in search rules
