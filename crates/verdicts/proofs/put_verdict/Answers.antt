use mathlib.Core.Path.{◌∙◌, sym}
use Rattle.writing.proofs.Putting.{room_first, room_second}
use Rattle.verdicts.proofs.Lines.{accepted_room, accepted_put, number_room, tail_room, end_room, refusal_put}
use Rattle.verdicts.proofs.put_verdict.Goals as goal

-- src/lib.rt:53:13
pub put_bytes-end-requires : goal.put_bytes-end-requires
put_bytes-end-requires c = room_first _ (accepted_room c.args.v c.number-n.ensures c.requires.at_in_bounds)

-- src/lib.rt:54:9
pub put_byte-requires : goal.put_byte-requires
put_byte-requires c = room_second (accepted_room c.args.v c.number-n.ensures c.requires.at_in_bounds) c.put_bytes-end.ensures

-- src/lib.rt:54:9
pub returns-then-n-eq0 : goal.returns-then-n-eq0
returns-then-n-eq0 c = accepted_put c.args.v c.number-n.ensures c.requires.at_in_bounds c.if-n-eq0.true c.put_bytes-end.ensures c.put_byte.ensures

-- src/lib.rt:56:9
pub put_told-first-requires : goal.put_told-first-requires
put_told-first-requires c = number_room c.args.v (c.from.ensures ∙ c.number-n.ensures) c.requires.at_in_bounds

-- src/lib.rt:57:9
pub put_tail-end-requires : goal.put_tail-end-requires
put_tail-end-requires c = record { v_bound = c.requires.v_bound; room = tail_room c.args.v (c.from.ensures ∙ c.number-n.ensures) c.requires.at_in_bounds c.put_told-first.ensures }

-- src/lib.rt:58:5
pub put_byte-requires-2 : goal.put_byte-requires-2
put_byte-requires-2 c = end_room c.args.v (c.from.ensures ∙ c.number-n.ensures) c.requires.at_in_bounds c.put_told-first.ensures c.put_tail-end.ensures

-- src/lib.rt:46:1
pub returns : goal.returns
returns c = refusal_put c.args.v (c.from.ensures ∙ c.number-n.ensures) c.requires.at_in_bounds c.put_told-first.ensures c.put_tail-end.ensures (λ z. c.if-n-eq0.false (sym c.from.ensures ∙ z)) c.put_byte-2.ensures
