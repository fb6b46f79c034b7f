-- `text::put_end` meets its contract: the three parts one after the other.
use native.Mathlib.Omega.{arith}
use native.Mathlib.Nat.{le_refl}
use Rattle.writing.proofs.Putting.{within_then}
use Rattle.text.proofs.Rows.{rows_as}
use Rattle.text.proofs.put_end.Goals as goal

pub returns : goal.returns
returns c = within_then (omega arith) c.put_counts-bv.ensures (within_then (le_refl _) c.put_bv-board.ensures (rows_as _ c.from-rows.ensures c.from-columns.ensures c.put_rows.ensures))
