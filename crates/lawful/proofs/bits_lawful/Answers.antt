-- `lawful::bits_lawful` meets its contract: every bit of the bytes passed is clear or that of a mine.
use mathlib.Core.Path.{sym, ◌∙◌}
use native.Mathlib.Omega.{arith}
use borrow.Author.Tests.{not-true, not-false}
use Rattle.lawful.proofs.Scan.{bits_none, bits_turn, bits_stop, bits_done}
use mathlib.Core.Path.{ap}
use mathlib.Core.Bool.{not}
use Rattle.lawful.proofs.bits_lawful.Goals as goal

pub loop-at-init : goal.loop-at-init
loop-at-init c = bits_none _ _

pub returns-then-not-fine : goal.returns-then-not-fine
returns-then-not-fine c = bits_stop _ _ _ _ c.loop-at-test.true c.byte_lawful-fine.ensures (not-true _ (ap not c.if-not-fine.true))

pub loop-at-preserved : goal.loop-at-preserved
loop-at-preserved c = bits_turn _ _ _ c.loop-at.invariant (sym c.byte_lawful-fine.ensures ∙ not-false _ (ap not c.if-not-fine.false))

pub returns : goal.returns
returns c = bits_done _ _ _ (omega arith) (omega arith) c.loop-at.invariant
