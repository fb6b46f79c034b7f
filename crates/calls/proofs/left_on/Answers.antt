-- `calls::left_on` meets its contract: work is cleared before the count, which gives it back.
use native.Mathlib.Omega.{arith}
use Rattle.boards.proofs.Tests.{mined_wide}
use Rattle.calls.proofs.Making.{room_wide, zeros_wide, left_small, left_made}
use Rattle.calls.proofs.left_on.Goals as goal

pub left_to_solve-left-requires : goal.left_to_solve-left-requires
left_to_solve-left-requires c = record { mined = mined_wide _ c.from-r.ensures c.from-c.ensures c.requires.mined; columns_in_bounds = room_wide _ c.from-r.ensures c.from-c.ensures (omega (arith, c.requires.columns_in_bounds, c.clear.auto.work)); zeros = zeros_wide c.args.mines.now c.from-r.ensures c.from-c.ensures _ c.cell_count-cells.ensures.0 _ _ c.clear.ensures }

pub overflow_cast-result : goal.overflow_cast-result
overflow_cast-result c = let small = left_small _ c.from-r.ensures c.from-c.ensures _ c.cell_count-cells.ensures.0 _ _ c.clear.ensures _ _ _ c.left_to_solve-left.ensures c.requires.mined.sized in
    omega (arith, small)

pub returns : goal.returns
returns c = left_made _ c.from-r.ensures c.from-c.ensures _ c.cell_count-cells.ensures.0 _ _ c.clear.ensures _ _ _ c.left_to_solve-left.ensures
