-- `clicks::end_opening` meets its contract: a mine hit, no safe cell left, or neither.
use Rattle.clicks.proofs.Ends.{ends_hit, ends_won, ends_open}
use Rattle.clicks.proofs.end_opening.Goals as goal

pub returns-then-o : goal.returns-then-o
returns-then-o c = λ past shown bits t. ends_hit _ _ c.saturating_sub-left.ensures _ c.with_unopened-q.ensures past shown bits t _ c.with_game-z.ensures c.if-o.true

pub returns-then-left-eq0 : goal.returns-then-left-eq0
returns-then-left-eq0 c = λ past shown bits t. ends_won _ _ c.saturating_sub-left.ensures _ c.with_unopened-q.ensures past shown bits t _ c.with_game-z-then-left-eq0.ensures c.if-o.false c.if-left-eq0.true

pub returns : goal.returns
returns c = λ past shown bits t. ends_open _ _ c.saturating_sub-left.ensures _ c.with_unopened-q.ensures past shown bits t c.if-o.false c.if-left-eq0.false
