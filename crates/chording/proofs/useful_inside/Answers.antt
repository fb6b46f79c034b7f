-- `chording::useful_inside` meets its contract: its tests are the definition's.
use mathlib.Core.Bool.{◌&&◌}
use mathlib.Core.Path.{ap₂}
use Prim.Native.Nat.{ℕ, ◌+◌}
use lib.Dec.{ltb, eqb}
use lib.ListN.{get_or}
use Rattle.chording.proofs.useful_inside.Goals as goal

pub returns : goal.returns
returns c = let v = get_or c.args.shown.now (c.args.first + c.args.columns + 1) 0 in ap₂ (λ (f k : ℕ). ltb v 8 && (eqb f v && ltb 0 k)) c.ring_shows-flags.ensures c.ring_shows-closed.ensures
