-- `lawful::cells_lawful` meets its contract: every cell passed shows what it may.
use native.Mathlib.Omega.{arith}
use borrow.Author.Tests.{not-true, not-false}
use Rattle.lawful.proofs.Scan.{cells_none, cells_turn, cells_stop, cells_done}
use mathlib.Core.Path.{ap}
use mathlib.Core.Bool.{not}
use Rattle.lawful.proofs.cells_lawful.Goals as goal

pub loop-i-init : goal.loop-i-init
loop-i-init c = cells_none _ _ _ _

pub returns-then-not-fine : goal.returns-then-not-fine
returns-then-not-fine c = cells_stop _ _ _ _ _ _ _ _ c.loop-i-test.true c.face_at-f.ensures c.cell_lawful-fine.ensures (not-true _ (ap not c.if-not-fine.true))

pub loop-i-preserved : goal.loop-i-preserved
loop-i-preserved c = cells_turn _ _ _ _ _ _ _ c.face_at-f.ensures c.cell_lawful-fine.ensures (not-false _ (ap not c.if-not-fine.false)) c.loop-i.invariant

pub returns : goal.returns
returns c = cells_done _ _ _ _ _ _ (omega arith) (omega arith) c.loop-i.invariant
