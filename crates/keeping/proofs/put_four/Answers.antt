-- `keeping::put_four` meets its contract: the four bytes are written as they are made.
use native.Mathlib.Omega.{arith}
use Rattle.writing.proofs.Putting.{put_as}
use Rattle.keeping.proofs.Slots.{four_made}
use Rattle.keeping.proofs.put_four.Goals as goal

pub returns : goal.returns
returns c = put_as (four_made {n = c.args.n} (omega (arith, c.ranges.n)) c.to_le_bytes-b.ensures) c.put_bytes.ensures
