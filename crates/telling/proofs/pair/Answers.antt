use native.Mathlib.Omega.{arith}
use Rattle.rules.specs.Clicks.{desk}
use Rattle.telling.proofs.Telling.{plain_byte, pair_refused, pair_played}
use Rattle.telling.proofs.pair.Goals as goal

pub returns-then-a-ne0 : goal.returns-then-a-ne0
returns-then-a-ne0 c = let a = c.args in pair_refused _ a.code a.row a.column (desk a.p a.shown.now a.bits.now) _ c.resolve-a.ensures _ c.if-a-ne0.true

pub overflow_cast-plain : goal.overflow_cast-plain
overflow_cast-plain c = let a = c.args in let l = plain_byte _ a.code a.row a.column (desk a.p a.shown.now a.bits.now) _ c.resolve-a.ensures (omega arith) in omega arith

pub returns : goal.returns
returns c = let a = c.args in pair_played _ a.code a.row a.column (desk a.p a.shown.now a.bits.now) _ c.resolve-a.ensures _ _ c.if-a-ne0.false c.step.ensures
