-- `lawful::take_census` meets its contract: the counts are those of the cells passed.
use native.Mathlib.Omega.{arith}
use Rattle.lawful.proofs.Scan.{counted_none, counted_turn, counted_few, counted_all}
use Rattle.lawful.proofs.take_census.Goals as goal

pub loop-x-init : goal.loop-x-init
loop-x-init c = counted_none _

pub count_cell-c-requires : goal.count_cell-c-requires
count_cell-c-requires c = counted_few _ _ _ _ c.loop-x.invariant (omega arith)

pub loop-x-preserved : goal.loop-x-preserved
loop-x-preserved c = counted_turn _ _ _ _ c.loop-x.invariant c.count_cell-c.ensures

pub returns : goal.returns
returns c = counted_all _ _ _ (omega arith) (omega arith) c.loop-x.invariant
