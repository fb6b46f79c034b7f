-- `text::put_event_line` meets its contract: two numbers of 16 bits and two of 8 take at most 20 bytes.
use native.Mathlib.Omega.{arith}
use Rattle.text.proofs.Lines.{event_as}
use Rattle.text.proofs.Lengths.{event_length}
use Rattle.writing.proofs.Putting.{put_as, room_within, within}
use Rattle.text.proofs.put_event_line.Goals as goal

pub put_line-requires : goal.put_line-requires
put_line-requires c = room_within 20 (event_length _ _ _ _ (omega arith) (omega arith) (omega arith) (omega arith)) c.requires

pub returns : goal.returns
returns c = within (event_length _ _ _ _ (omega arith) (omega arith) (omega arith) (omega arith)) (put_as (event_as c.from-4.ensures c.from.ensures c.from-2.ensures c.from-3.ensures) c.put_line.ensures)
