-- `book::ended` meets its contract: at each return the tests say which case of the definition holds.
use mathlib.Core.Path.{◌∙◌, sym}
use Rattle.book.proofs.Reading.{end_unread, end_over, end_right}
use Rattle.book.proofs.ended.Goals as goal

pub returns-then-b-ne0 : goal.returns-then-b-ne0
returns-then-b-ne0 c = sym (end_unread _ _ _ c.if-b-ne0.true)

pub returns-then-end-s : goal.returns-then-end-s
returns-then-end-s c = c.refuse.ensures ∙ sym (end_over _ _ _ c.if-b-ne0.false c.if-end-s.true)

pub returns : goal.returns
returns c = sym (end_right _ _ _ c.if-b-ne0.false c.if-end-s.false)
