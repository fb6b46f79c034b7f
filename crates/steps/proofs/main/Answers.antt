-- `steps::main` meets its contract: the rooms keep their lengths, and each turn leaves one step fewer.
use Rattle.steps.proofs.Lending.{rooms_kept}
use Rattle.steps.proofs.main.Goals as goal

pub loop-left-init : goal.loop-left-init
loop-left-init c = record { byte = c.large_buffer-bytes.ensures; mine = c.mine_room-mines.ensures; cell = c.large_buffer-shown.ensures; flag = c.large_buffer-bits.ensures; room = c.work_room-work.ensures; text = c.text_room-out.ensures }

pub slice_bounds-play_next-end : goal.slice_bounds-play_next-end
slice_bounds-play_next-end c = c.loop-left.invariant.byte

pub slice_bounds-play_next-end-in-loop-left : goal.slice_bounds-play_next-end-in-loop-left
slice_bounds-play_next-end-in-loop-left c = c.loop-left.invariant.mine

pub slice_bounds-play_next-end-in-loop-left-2 : goal.slice_bounds-play_next-end-in-loop-left-2
slice_bounds-play_next-end-in-loop-left-2 c = c.loop-left.invariant.cell

pub slice_bounds-play_next-end-in-loop-left-3 : goal.slice_bounds-play_next-end-in-loop-left-3
slice_bounds-play_next-end-in-loop-left-3 c = c.loop-left.invariant.flag

pub slice_bounds-play_next-end-in-loop-left-4 : goal.slice_bounds-play_next-end-in-loop-left-4
slice_bounds-play_next-end-in-loop-left-4 c = c.loop-left.invariant.room

pub slice_bounds-play_next-end-in-loop-left-5 : goal.slice_bounds-play_next-end-in-loop-left-5
slice_bounds-play_next-end-in-loop-left-5 c = c.loop-left.invariant.text

pub play_next-requires : goal.play_next-requires
play_next-requires c = c.loop-left.invariant

pub loop-left-preserved : goal.loop-left-preserved
loop-left-preserved c = rooms_kept c.loop-left.invariant c.play_next.auto.bytes c.play_next.auto.mines c.play_next.auto.shown c.play_next.auto.bits c.play_next.auto.work c.play_next.auto.out
