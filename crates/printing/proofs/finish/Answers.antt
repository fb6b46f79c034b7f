-- `printing::finish` meets its contract: the total and what is left to solve are those of the board, and the work comes back from both.
use mathlib.Core.Path.{refl, ◌∙◌}
use native.Mathlib.Omega.{arith}
use Rattle.printing.proofs.Ending.{ending_asks, total_small, left_small, ending_put}
use Rattle.printing.proofs.finish.Goals as goal

pub total_3bv-total-requires : goal.total_3bv-total-requires
total_3bv-total-requires c = let whole = ending_asks _ c.args.p c.from-rows.ensures c.from-columns.ensures refl c.requires.mined c.requires.blank in record { mined = whole.0; columns_in_bounds = whole.1.0; zeros = whole.1.1 }

pub left_to_solve-left-requires : goal.left_to_solve-left-requires
left_to_solve-left-requires c = let whole = ending_asks _ c.args.p c.from-rows.ensures c.from-columns.ensures c.total_3bv-total.ensures.same c.requires.mined c.requires.blank in record { mined = whole.0; columns_in_bounds = whole.1.0; zeros = whole.1.1 }

pub overflow_cast-total : goal.overflow_cast-total
overflow_cast-total c = let small = total_small _ c.args.p c.from-rows.ensures c.from-columns.ensures c.requires.mined c.total_3bv-total.ensures in omega (arith, small)

pub overflow_cast-left : goal.overflow_cast-left
overflow_cast-left c = let small = left_small _ c.args.p c.from-rows.ensures c.from-columns.ensures _ c.requires.mined c.left_to_solve-left.ensures in omega (arith, small)

pub returns : goal.returns
returns c = let a = c.args in record { put = ending_put _ a.p c.from-rows.ensures c.from-columns.ensures a.shown.now c.total_3bv-total.ensures c.left_to_solve-left.ensures c.put_end.ensures; same = c.left_to_solve-left.ensures.same ∙ c.total_3bv-total.ensures.same }
