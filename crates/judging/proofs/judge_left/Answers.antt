-- `judging::judge_left`: an open cell changes nothing; any other is judged by a walk that is shown nothing.
use borrow.Author.Tests.{not-true, not-false}
use Rattle.judging.proofs.Tallying.{judged_open, judged_due}
use mathlib.Core.Path.{ap}
use mathlib.Core.Bool.{not}
use Rattle.judging.proofs.judge_left.Goals as goal

pub returns-then-not-not_open : goal.returns-then-not-not_open
returns-then-not-not_open c = judged_open c.not_open.ensures _ _ _ _ _ _ (not-true _ (ap not c.if-not-not_open.true))

pub returns : goal.returns
returns c = judged_due c.not_open.ensures _ _ _ _ _ _ (not-false _ (ap not c.if-not-not_open.false)) _ _ c.judge_one.ensures
