-- `flagging::flag_around` meets its contract. The loop: the first k neighbours are flagged.
use mathlib.Core.Path.{◌≡◌}
use native.Mathlib.Omega.{arith}
use Rattle.flagging.proofs.Scan.{going_one, room_start, around_start, around_more}
use Rattle.flagging.proofs.flag_around.Goals as goal

pub loop-k-init : goal.loop-k-init
loop-k-init c = (omega arith, around_start _ _ _ _ _ _ _)

pub neighbour_at-q-requires : goal.neighbour_at-q-requires
neighbour_at-q-requires c = record { sized = c.requires.flaggable.mined.sized; row_lt_rows = c.requires.row_lt_rows; k_bound = omega arith }

pub flag_one-n-requires : goal.flag_one-n-requires
flag_one-n-requires c = let whole = going_one c.requires.flaggable (room_start c.requires.flaggable) c.loop-k.invariant.1 in record { valued = whole.0; shown_len = whole.1.0; mines_len_bound = whole.1.1.0; shown_bound = whole.1.1.1 }

pub loop-k-preserved : goal.loop-k-preserved
loop-k-preserved c = (omega arith, around_more c.flag_one-n.auto.shown c.flag_one-n.auto.bits _ _ _ _ _ _ _ c.requires.row_lt_rows.1 c.neighbour_at-q.ensures c.loop-k.invariant.1 c.flag_one-n.ensures)

pub shape_of-shown : goal.shape_of-shown
shape_of-shown c = c.loop-k.invariant.1.board

pub shape_of-bits : goal.shape_of-bits
shape_of-bits c = c.loop-k.invariant.1.bytes

pub returns : goal.returns
returns c = let e : c.loop-k.k ≡ 8 = omega arith in rw e at c.loop-k.invariant.1.flags
