-- `claiming::claimed_buffer` meets its contract: by the law, and not by counting.
use mathlib.Core.Path.{sym}
use Prim.Native.Nat.{ℕ}
use lib.ListN.{length-replicate}
use Rattle.claiming.proofs.claimed_buffer.Goals as goal

pub returns : goal.returns
returns c = sym (length-replicate {0} {A = ℕ} 28719 0)
