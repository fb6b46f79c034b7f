-- `steps::play_next` meets its contract: a length of two bytes is a part of its room.
use Rattle.steps.proofs.Lending.{part_within, part_length, part_back, parts_fit}
use Rattle.steps.proofs.play_next.Goals as goal

pub slice_bounds-play_rest-end : goal.slice_bounds-play_rest-end
slice_bounds-play_rest-end g c = part_within _ _ c.length_at-cells.ensures c.requires.byte

pub slice_bounds-play_rest-end-2 : goal.slice_bounds-play_rest-end-2
slice_bounds-play_rest-end-2 g c = part_length _ _ c.length_at-cells.ensures c.requires.byte

pub slice_bounds-play_rest-end-3 : goal.slice_bounds-play_rest-end-3
slice_bounds-play_rest-end-3 g c = part_within _ _ c.length_at-cells.ensures c.requires.mine

pub slice_bounds-play_rest-end-4 : goal.slice_bounds-play_rest-end-4
slice_bounds-play_rest-end-4 g c = part_length _ _ c.length_at-cells.ensures c.requires.mine

pub slice_bounds-play_rest-end-5 : goal.slice_bounds-play_rest-end-5
slice_bounds-play_rest-end-5 g c = part_within _ _ c.length_at-looks.ensures c.requires.cell

pub slice_bounds-play_rest-end-6 : goal.slice_bounds-play_rest-end-6
slice_bounds-play_rest-end-6 g c = part_length _ _ c.length_at-looks.ensures c.requires.cell

pub slice_bounds-play_rest-end-7 : goal.slice_bounds-play_rest-end-7
slice_bounds-play_rest-end-7 g c = part_within _ _ c.length_at-flags.ensures c.requires.flag

pub slice_bounds-play_rest-end-8 : goal.slice_bounds-play_rest-end-8
slice_bounds-play_rest-end-8 g c = part_length _ _ c.length_at-flags.ensures c.requires.flag

pub slice_bounds-play_rest-end-9 : goal.slice_bounds-play_rest-end-9
slice_bounds-play_rest-end-9 g c = part_within _ _ c.length_at-room.ensures c.requires.room

pub slice_bounds-play_rest-end-10 : goal.slice_bounds-play_rest-end-10
slice_bounds-play_rest-end-10 g c = part_length _ _ c.length_at-room.ensures c.requires.room

pub play_rest-requires : goal.play_rest-requires
play_rest-requires g c = let whole = parts_fit _ _ _ c.requires c.length_at-cells.ensures c.length_at-looks.ensures c.length_at-flags.ensures in record { mines_len = whole.0; bits_in_bounds = whole.1 }

pub shape_of-bytes : goal.shape_of-bytes
shape_of-bytes g c = part_back _ c.args.bytes.now c.play_rest.new.bytes c.length_at-cells.ensures c.requires.byte c.play_rest.auto.bytes

pub shape_of-mines : goal.shape_of-mines
shape_of-mines g c = part_back _ c.args.mines.now c.play_rest.new.mines c.length_at-cells.ensures c.requires.mine c.play_rest.auto.mines

pub shape_of-shown : goal.shape_of-shown
shape_of-shown g c = part_back _ c.args.shown.now c.play_rest.new.shown c.length_at-looks.ensures c.requires.cell c.play_rest.auto.shown

pub shape_of-bits : goal.shape_of-bits
shape_of-bits g c = part_back _ c.args.bits.now c.play_rest.new.bits c.length_at-flags.ensures c.requires.flag c.play_rest.auto.bits

pub shape_of-work : goal.shape_of-work
shape_of-work g c = part_back _ c.args.work.now c.play_rest.new.work c.length_at-room.ensures c.requires.room c.play_rest.auto.work

pub shape_of-out : goal.shape_of-out
shape_of-out g c = c.play_rest.auto.out
