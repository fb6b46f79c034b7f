-- `judging::judge_one`: a marked cell and a number change nothing; a walk is counted where it is not stopped.
use mathlib.Core.Path.{refl, sym, ◌∙◌}
use mathlib.Core.Bool.{true, false}
use native.Mathlib.Omega.{arith}
use borrow.Author.Tests.{not-true, not-false}
use Rattle.judging.proofs.Tallying.{judged_marked, judged_number, judged_walk}
use mathlib.Core.Path.{ap}
use mathlib.Core.Bool.{not}
use Rattle.judging.proofs.judge_one.Goals as goal

pub returns-then-not-free : goal.returns-then-not-free
returns-then-not-free c = judged_marked _ _ _ _ _ _ _ (sym c.free.ensures ∙ not-true _ (ap not c.if-not-free.true))

pub returns-then-v-ne0 : goal.returns-then-v-ne0
returns-then-v-ne0 c = judged_number _ _ _ _ _ _ _ _ c.face_at-v.ensures c.if-v-ne0.true

pub returns-then-walk : goal.returns-then-walk
returns-then-walk c = judged_walk _ _ _ _ _ _ _ (sym c.free.ensures ∙ not-false _ (ap not c.if-not-free.false)) _ c.face_at-v.ensures c.if-v-ne0.false _ _ true c.walk.ensures c.if-walk.true _ refl

pub returns : goal.returns
returns c = judged_walk _ _ _ _ _ _ _ (sym c.free.ensures ∙ not-false _ (ap not c.if-not-free.false)) _ c.face_at-v.ensures c.if-v-ne0.false _ _ false c.walk.ensures c.if-walk.false _ (omega arith)
