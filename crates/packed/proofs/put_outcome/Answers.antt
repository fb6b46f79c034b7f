-- `packed::put_outcome` meets its contract: the answer, its place, its value and its position, the cells, the bits and the line's end, one after
-- the other.
use Rattle.writing.proofs.Putting.{room_first, room_second, put_then}
use Rattle.packed.proofs.Telling.{outcome_room_lem, outcome_told}
use Rattle.packed.proofs.put_outcome.Goals as goal

pub put_decimal-first-requires : goal.put_decimal-first-requires
put_decimal-first-requires c = room_first _ (outcome_room_lem c.args.a c.args.shown.now c.args.bits.now c.from.ensures c.numbers-ns.ensures (λ i. (c.type_inv.shown i).fits) (λ i. (c.type_inv.bits i).fits) c.requires)

pub put_spaced-cells-requires : goal.put_spaced-cells-requires
put_spaced-cells-requires c = room_first _ (room_second (outcome_room_lem c.args.a c.args.shown.now c.args.bits.now c.from.ensures c.numbers-ns.ensures (λ i. (c.type_inv.shown i).fits) (λ i. (c.type_inv.bits i).fits) c.requires) c.put_decimal-first.ensures)

pub put_cells-bytes-requires : goal.put_cells-bytes-requires
put_cells-bytes-requires c = room_first _ (room_second (room_second (outcome_room_lem c.args.a c.args.shown.now c.args.bits.now c.from.ensures c.numbers-ns.ensures (λ i. (c.type_inv.shown i).fits) (λ i. (c.type_inv.bits i).fits) c.requires) c.put_decimal-first.ensures) c.put_spaced-cells.ensures)

pub put_cells-last-requires : goal.put_cells-last-requires
put_cells-last-requires c = room_first _ (room_second (room_second (room_second (outcome_room_lem c.args.a c.args.shown.now c.args.bits.now c.from.ensures c.numbers-ns.ensures (λ i. (c.type_inv.shown i).fits) (λ i. (c.type_inv.bits i).fits) c.requires) c.put_decimal-first.ensures) c.put_spaced-cells.ensures) c.put_cells-bytes.ensures)

pub put_byte-requires : goal.put_byte-requires
put_byte-requires c = room_second (room_second (room_second (room_second (outcome_room_lem c.args.a c.args.shown.now c.args.bits.now c.from.ensures c.numbers-ns.ensures (λ i. (c.type_inv.shown i).fits) (λ i. (c.type_inv.bits i).fits) c.requires) c.put_decimal-first.ensures) c.put_spaced-cells.ensures) c.put_cells-bytes.ensures) c.put_cells-last.ensures

pub returns : goal.returns
returns c = outcome_told c.args.a c.args.shown.now c.args.bits.now c.from.ensures c.numbers-ns.ensures (λ i. (c.type_inv.shown i).fits) (λ i. (c.type_inv.bits i).fits) (put_then c.put_decimal-first.ensures (put_then c.put_spaced-cells.ensures (put_then c.put_cells-bytes.ensures (put_then c.put_cells-last.ensures c.put_byte.ensures))))
