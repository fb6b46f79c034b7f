-- `keeping::keep_desk` meets its contract: at each return the test that led there says why nothing is kept, or that the next is.
use native.Mathlib.Omega.{arith}
use Rattle.keeping.proofs.Keeps.{keep_full, keep_between, keep_other, kept_less, slot_ends, slot_room, keep_next}
use Rattle.keeping.proofs.keep_desk.Goals as goal

pub returns-then-room-size : goal.returns-then-room-size
returns-then-room-size c = keep_full c.args.p _ _ c.requires.boards _ _ _ _ c.if-room-size.true

pub returns-then-m-k-ne0 : goal.returns-then-m-k-ne0
returns-then-m-k-ne0 c = keep_between c.args.p _ _ c.requires.boards _ _ _ _ c.if-m-k-ne0.true

pub overflow_add-kept : goal.overflow_add-kept
overflow_add-kept c = let l = kept_less c.args.p c.args.shown.now c.args.bits.now c.requires.boards 0 0 c.args.kept c.args.room.now c.if-room-size.false in omega (arith, c.well_formed)

pub returns-then-m-k : goal.returns-then-m-k
returns-then-m-k c = keep_other c.args.p _ _ c.requires.boards _ _ _ _ c.requires.le_k c.if-m-k.true

pub overflow_mul-kept : goal.overflow_mul-kept
overflow_mul-kept c = let l = slot_ends c.args.p c.args.shown.now c.args.bits.now c.requires.boards 0 0 c.args.kept c.args.room.now c.if-room-size.false in omega (arith, c.well_formed)

pub put_desk-requires : goal.put_desk-requires
put_desk-requires c = slot_room c.args.p _ _ c.requires.boards 0 0 _ _ c.if-room-size.false

pub returns : goal.returns
returns c = keep_next c.args.p _ _ c.requires.boards _ _ _ _ c.if-room-size.false c.if-m-k-ne0.false c.if-m-k.false c.put_desk.ensures
