-- `steps::mine_room` meets its contract: by the law, and not by counting.
use mathlib.Core.Path.{sym}
use lib.IntN.{ℤ, pos}
use lib.ListN.{length-replicate}
use Rattle.steps.proofs.mine_room.Goals as goal

pub returns : goal.returns
returns c = sym (length-replicate {0} {A = ℤ} 65536 (pos 0))
