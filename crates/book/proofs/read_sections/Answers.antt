-- `book::read_sections` meets its contract: the count and its bytes, then the settings.
use borrow.Author.Tests.{lt-leb, not-true, not-false}
use mathlib.Core.Path.{◌∙◌, sym}
use Rattle.rules.specs.Book.{settings_section, sections_of}
use Rattle.book.proofs.Reading.{count_wrong, settings_short, settings_there}
use mathlib.Core.Path.{ap}
use mathlib.Core.Bool.{not}
use Rattle.book.proofs.read_sections.Goals as goal

pub returns-then-s-lt1 : goal.returns-then-s-lt1
unfolding sections_of settings_section
returns-then-s-lt1 c = simp (lt-leb _ _ c.if-s-lt1.true, c.refuse.ensures)

pub returns-then-not-count : goal.returns-then-not-count
unfolding sections_of
returns-then-not-count c = c.refuse-then-not-count.ensures ∙ sym (count_wrong _ _ c.if-s-lt1.false (not-true _ (ap not c.if-not-count.true)))

pub returns-then-s-at : goal.returns-then-s-at
unfolding sections_of
returns-then-s-at c = let right = not-false _ (ap not c.if-not-count.false) in
    c.refuse-then-s-at.ensures ∙ sym (settings_short _ _ right c.from-at.ensures _ c.if-s-lt1.false c.if-s-at.true)

pub read_settings-requires : goal.read_settings-requires
read_settings-requires c = settings_there _ _ (not-false _ (ap not c.if-not-count.false)) c.from-at.ensures c.if-s-at.false
