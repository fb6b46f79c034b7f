-- `keeping::put_desk` meets its contract: states, numbers, cells and bits, one after the other.
use mathlib.Core.Path.{sym}
use Rattle.writing.proofs.Putting.{room_first, room_second, room_as, put_then, put_as}
use Rattle.keeping.proofs.Slots.{desk_parts}
use Rattle.keeping.proofs.put_desk.Goals as goal

pub put_bytes-first-requires : goal.put_bytes-first-requires
put_bytes-first-requires c = room_first _ (room_as (desk_parts _ _ _ c.states-states.ensures c.numbers-ns.ensures) c.requires)

pub put_fours-cells-requires : goal.put_fours-cells-requires
put_fours-cells-requires c = room_first _ (room_second (room_as (desk_parts _ _ _ c.states-states.ensures c.numbers-ns.ensures) c.requires) c.put_bytes-first.ensures)

pub put_bytes-last-requires : goal.put_bytes-last-requires
put_bytes-last-requires c = room_first _ (room_second (room_second (room_as (desk_parts _ _ _ c.states-states.ensures c.numbers-ns.ensures) c.requires) c.put_bytes-first.ensures) c.put_fours-cells.ensures)

pub put_bytes-requires : goal.put_bytes-requires
put_bytes-requires c = room_second (room_second (room_second (room_as (desk_parts _ _ _ c.states-states.ensures c.numbers-ns.ensures) c.requires) c.put_bytes-first.ensures) c.put_fours-cells.ensures) c.put_bytes-last.ensures

pub returns : goal.returns
returns c = put_as (sym (desk_parts _ _ _ c.states-states.ensures c.numbers-ns.ensures)) (put_then c.put_bytes-first.ensures (put_then c.put_fours-cells.ensures (put_then c.put_bytes-last.ensures c.put_bytes.ensures)))
