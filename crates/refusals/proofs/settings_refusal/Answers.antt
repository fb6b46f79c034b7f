-- `refusals::settings_refusal` meets its contract.
use borrow.Author.Tests.{not-true, not-false}
use Rattle.refusals.proofs.Refusals.{settings_refused, settings_last}
use mathlib.Core.Path.{◌≡◌, refl, ap, ◌∙◌}
use borrow.Author.Rules.{rules}
use Rattle.std.specs.Prelude.{Err}
use Rattle.rules.specs.Refusals.{found_number}
use mathlib.Core.Bool.{not}
use Rattle.cells.proofs.Refused.{never_0}
use Rattle.refusals.proofs.settings_refusal.Goals as goal

pub returns-in_err-board_refusal : goal.returns-in_err-board_refusal
returns-in_err-board_refusal c =
    let e : c.from_residual.result ≡ Err c.in_err-board_refusal.field-0.0 = search rules in
    ap found_number e ∙ settings_refused _ _ _ _ c.in_err-board_refusal.ensures (never_0 _)

pub returns-then-not-mode_ok : goal.returns-then-not-mode_ok
returns-then-not-mode_ok c = settings_last _ _ _ _ _ c.in_ok-board_refusal.ensures refl c.mode_ok.ensures (not-true _ (ap not c.if-not-mode_ok.true))

pub returns : goal.returns
returns c = settings_last _ _ _ _ _ c.in_ok-board_refusal.ensures refl c.mode_ok.ensures (not-false _ (ap not c.if-not-mode_ok.false))
