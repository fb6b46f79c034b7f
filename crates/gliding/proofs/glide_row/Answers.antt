-- `gliding::glide_row` meets its contract.
use native.Mathlib.Omega.{arith}
use Rattle.gliding.proofs.Ways.{after_boards, row_refuses, row_accepts}
use Rattle.gliding.proofs.glide_row.Goals as goal

pub play_row-o-requires : goal.play_row-o-requires
play_row-o-requires c = record { lawful_at = c.requires.lawful_at; blank = c.requires.blank; from_le_to = (omega arith, omega arith) }

pub returns-then-o-ge20 : goal.returns-then-o-ge20
returns-then-o-ge20 c = record { stops = c.stop_after-at.ensures; leaves = record { outcome = row_refuses c.args.mines.now c.args.section.now c.args.k c.args.e c.args.to c.requires.le_k.0 c.args.p c.args.shown.now c.args.bits.now c.args.work.now c.requires.lawful_at c.stop_after-at.ensures c.play_row-o.result _ _ _ c.play_row-o.ensures _ _ c.if-o-ge20.true; same = c.play_row-o.ensures.same } }

pub keep_desk-n-requires : goal.keep_desk-n-requires
keep_desk-n-requires c = record { le_k = c.requires.le_k.0; boards = after_boards c.args.mines.now c.args.section.now c.args.k c.args.e c.args.to c.requires.le_k.0 c.args.p c.args.shown.now c.args.bits.now c.args.work.now c.requires.lawful_at c.stop_after-at.ensures c.play_row-o.result _ _ _ c.play_row-o.ensures }

pub returns : goal.returns
returns c = record { stops = c.stop_after-at.ensures; leaves = record { outcome = row_accepts c.args.mines.now c.args.section.now c.args.k c.args.e c.args.to c.requires.le_k.0 c.args.p c.args.shown.now c.args.bits.now c.args.work.now c.requires.lawful_at c.stop_after-at.ensures c.play_row-o.result _ _ _ c.play_row-o.ensures _ _ c.if-o-ge20.false c.keep_desk-n.ensures; same = c.play_row-o.ensures.same } }
