-- `book::read_settings` meets its contract: at each return the tests that led there say which fault is the first, or that the settings are right.
use borrow.Author.Tests.{not-true, not-false, le-leb, lt-leb}
use mathlib.Core.Path.{◌∙◌, ap, sym}
use Rattle.rules.specs.Mouse.{rules_ok}
use Rattle.rules.specs.Book.{sections_of}
use Rattle.book.proofs.Reading.{question_wrong, size_wrong, mode_wrong_lem, rules_wrong, settings_right, mines_after}
use mathlib.Core.Bool.{not}
use Rattle.book.proofs.read_settings.Goals as goal

pub returns-then-not-question_right : goal.returns-then-not-question_right
unfolding sections_of
returns-then-not-question_right c = c.refuse.ensures ∙ sym (question_wrong _ _ c.requires.0 (lt-leb _ _ c.if-not-question_right.true))

pub returns-then-not-size_right : goal.returns-then-not-size_right
unfolding sections_of
returns-then-not-size_right c = c.refuse-then-not-size_right.ensures ∙ sym (size_wrong _ _ c.requires.0 (le-leb _ _ c.if-not-question_right.false) (sym c.size_ok-size_right.ensures ∙ not-true _ (ap not c.if-not-size_right.true)))

pub returns-then-not-mode_right : goal.returns-then-not-mode_right
unfolding sections_of
returns-then-not-mode_right c = let size = sym c.size_ok-size_right.ensures ∙ not-false _ (ap not c.if-not-size_right.false) in
    let mode = sym c.mode_ok-mode_right.ensures ∙ not-true _ (ap not c.if-not-mode_right.true) in
    c.refuse-then-not-mode_right.ensures ∙ sym (mode_wrong_lem _ _ c.requires.0 (le-leb _ _ c.if-not-question_right.false) size mode)

pub returns-then-not-rules_right : goal.returns-then-not-rules_right
unfolding sections_of
returns-then-not-rules_right c = let size = sym c.size_ok-size_right.ensures ∙ not-false _ (ap not c.if-not-size_right.false) in
    let mode = sym c.mode_ok-mode_right.ensures ∙ not-false _ (ap not c.if-not-mode_right.false) in
    let rules = ap rules_ok (sym c.rules_at-rules.ensures) ∙ sym c.rules_ok-rules_right.ensures ∙ not-true _ (ap not c.if-not-rules_right.true) in
    c.refuse-then-not-rules_right.ensures ∙ sym (rules_wrong _ _ c.requires.0 (le-leb _ _ c.if-not-question_right.false) size mode rules)

pub returns : goal.returns
unfolding sections_of
returns c = let size = sym c.size_ok-size_right.ensures ∙ not-false _ (ap not c.if-not-size_right.false) in
    let mode = sym c.mode_ok-mode_right.ensures ∙ not-false _ (ap not c.if-not-mode_right.false) in
    let rules = ap rules_ok (sym c.rules_at-rules.ensures) ∙ sym c.rules_ok-rules_right.ensures ∙ not-false _ (ap not c.if-not-rules_right.false) in
    mines_after _ _ _ c.requires.1 c.rules_at-rules.ensures c.read_mines.ensures ∙ sym (settings_right _ _ c.requires.0 (le-leb _ _ c.if-not-question_right.false) size mode rules)
