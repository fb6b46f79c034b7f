-- `boards::value_fault` meets its contract: the values before `cell` are right. Assumes nothing.
use mathlib.Core.Path.{sym, refl}
use native.Mathlib.Omega.{arith}
use borrow.Author.Rules.{rules}
use borrow.Author.Tests.{not-true, not-false}
use lib.ListN.{length, get_or}
use lib.IntN.{pos}
use Rattle.rules.specs.Board.{value_ok_at}
use Rattle.rules.specs.Words.{every}
use Rattle.cells.proofs.Words.{every_turn}
use Rattle.cells.proofs.Firsts.{first_at, first_none}
use Rattle.boards.proofs.Scans.{every_end}
use Rattle.boards.proofs.Tests.{value_passed}
use mathlib.Core.Path.{ap}
use mathlib.Core.Bool.{not}
use Rattle.boards.proofs.value_fault.Goals as goal

pub loop-cell-init : goal.loop-cell-init
unfolding every
loop-cell-init c = refl

pub returns-then-not-value_ok : goal.returns-then-not-value_ok
returns-then-not-value_ok c = let B = c.args.mines.now in
    sym
    (first_at (value_ok_at B) (length B) c.loop-cell.cell (search rules) c.loop-cell.invariant
    (value_passed (get_or B c.loop-cell.cell (pos 0)) (record { sfits = c.value_ok-arg-1.given })
    c.value_ok.ensures (not-true _ (ap not c.if-not-value_ok.true))))

pub loop-cell-preserved : goal.loop-cell-preserved
loop-cell-preserved c = let B = c.args.mines.now in every_turn (value_ok_at B) c.loop-cell.cell
    c.loop-cell.invariant
    (value_passed (get_or B c.loop-cell.cell (pos 0)) (record { sfits = c.value_ok-arg-1.given })
    c.value_ok.ensures (not-false _ (ap not c.if-not-value_ok.false)))

pub returns : goal.returns
returns c = let B = c.args.mines.now in
    sym (first_none (value_ok_at B) (length B) (every_end (value_ok_at B) (length B) c.loop-cell.cell (omega arith) (omega arith) c.loop-cell.invariant))
