-- `trainer::report` meets its contract.
use mathlib.Core.Path.{ap}
use mathlib.Core.Bool.{not}
use borrow.Author.Tests.{not-true, not-false}
use Rattle.trainer.proofs.Scoring.{report_none, report_follows, report_leaves}
use Rattle.trainer.proofs.report.Goals as goal

pub returns-then-opened-eq0 : goal.returns-then-opened-eq0
returns-then-opened-eq0 c = report_none _ _ _ _ c.if-opened-eq0.true

pub returns-then-not-points_at : goal.returns-then-not-points_at
returns-then-not-points_at c = report_leaves _ _ _ _ c.if-opened-eq0.false c.points_at.ensures (not-true _ (ap not c.if-not-points_at.true))

pub returns : goal.returns
returns c = report_follows _ _ _ _ c.if-opened-eq0.false c.points_at.ensures (not-false _ (ap not c.if-not-points_at.false)) c.one_more.ensures
