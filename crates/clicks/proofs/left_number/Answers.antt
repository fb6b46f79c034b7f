-- `left_number`: the number is shown, the counts added, and one cell fewer is still closed.
use Rattle.clicks.proofs.Steps.{added_room, number_done}
use Rattle.clicks.proofs.left_number.Goals as goal

pub left_counts-z-requires : goal.left_counts-z-requires
left_counts-z-requires c = added_room _ _ c.add_left-q.ensures c.requires.room_at

pub returns : goal.returns
returns c = λ B bits h. number_done B c.args.p _ _ _ _ h _ _ c.add_left-q.ensures c.left_counts-z.ensures _ c.end_opening.ensures bits
