-- `viewing::cells_fault` meets its contract: the cells not yet judged have the fault of the whole.
use mathlib.Core.Path.{ap}
use mathlib.Core.Bool.{not}
use native.Mathlib.Omega.{arith}
use borrow.Author.Tests.{not-true, not-false}
use Rattle.std.proofs.lemmas.Result.{err_from_is_err_and}
use Rattle.viewing.proofs.Cells.{judge_start, judge_fault, judge_bad, judge_turn, judge_over, judge_done}
use Rattle.viewing.proofs.cells_fault.Goals as goal

pub loop-i-init : goal.loop-i-init
loop-i-init c = judge_start _ _

pub returns-in_err-cell : goal.returns-in_err-cell
returns-in_err-cell c = let p = err_from_is_err_and c.from_residual.result c.from_residual.ensures.1 in
    rw (p.1, p.2) (judge_fault _ _ c.loop-i.at (omega arith) c.loop-i.invariant c.in_err-cell.ensures)

pub returns-then-not-is_shown : goal.returns-then-not-is_shown
returns-then-not-is_shown c = judge_bad _ _ c.loop-i.at (omega arith) c.loop-i.invariant c.in_ok-cell.ensures c.is_shown.ensures (not-true _ (ap not c.if-not-is_shown.true))

pub loop-i-preserved : goal.loop-i-preserved
loop-i-preserved c = judge_turn _ _ c.loop-i.at (omega arith) c.loop-i.invariant c.in_ok-cell.ensures c.is_shown.ensures _ (omega arith) (not-false _ (ap not c.if-not-is_shown.false))

pub returns-then-skip-s : goal.returns-then-skip-s
returns-then-skip-s c = judge_over _ _ c.loop-i.at _ (omega arith) c.skip.ensures c.loop-i.invariant c.if-skip-s.true

pub returns : goal.returns
returns c = judge_done _ _ c.loop-i.at _ (omega arith) c.skip.ensures c.loop-i.invariant c.if-skip-s.false
