-- `practice::run_calls` meets its contract: every place that it comes to is reached, with the score before it. The measure is how many bytes are left.
use mathlib.Core.Path.{sym}
use native.Mathlib.Omega.{arith}
use lib.Seq.{length-take-le}
use Rattle.practice.specs.Practice.{broken}
use Rattle.practice.proofs.Calls.{bytes_least, reached_next}
use Rattle.practice.proofs.Lines.{handed_fits, handed_whole}
use Rattle.practice.proofs.run_calls.Goals as goal

pub loop-at-init : goal.loop-at-init
loop-at-init g c = (omega arith, c.requires.reached)

pub call_at-requires : goal.call_at-requires
call_at-requires g c = c.loop-at.invariant.0

pub slice_bounds-hand-end : goal.slice_bounds-hand-end
slice_bounds-hand-end g c = sym (length-take-le _ _ (handed_fits c.line_room-out.ensures c.put_broken-long.ensures c.put_broken-long.auto.out))

pub hand-requires : goal.hand-requires
hand-requires g c = broken c.loop-at.invariant.1 (sym c.in_default.ensures) (handed_whole c.line_room-out.ensures c.put_broken-long.ensures)

pub run_call-requires : goal.run_call-requires
run_call-requires g c = record { call_is = c.in-Some.ensures; reached = c.loop-at.invariant.1 }

pub length-at-requires : goal.length-at-requires
length-at-requires g c = omega (arith, c.in-Some.ensures.within)

pub overflow_add-at : goal.overflow_add-at
overflow_add-at g c = omega (arith, c.in-Some.ensures.within)

pub loop-at-smaller : goal.loop-at-smaller
loop-at-smaller g c = omega (arith, c.in-Some.ensures.within, bytes_least c.in-Some.call)

pub loop-at-preserved : goal.loop-at-preserved
loop-at-preserved g c = (omega (arith, c.in-Some.ensures.within), reached_next _ _ _ c.in-Some.ensures c.length-at.ensures c.loop-at.invariant.1 c.in_ok-score.ensures.after)
