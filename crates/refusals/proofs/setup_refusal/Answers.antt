-- `refusals::setup_refusal` meets its contract.
use mathlib.Core.Path.{◌≡◌, refl, ap, sym, ◌∙◌}
use borrow.Author.Rules.{rules}
use Rattle.std.specs.Prelude.{Err}
use Rattle.rules.specs.Refusals.{found_number}
use Rattle.refusals.proofs.Refusals.{fits_mines, setup_first, setup_last}
use Rattle.cells.proofs.Refused.{never_0}
use Rattle.refusals.proofs.setup_refusal.Goals as goal

pub settings_refusal-requires : goal.settings_refusal-requires
settings_refusal-requires c = λ e. fits_mines _ _ _ _ (sym c.boards_fit-fit.ensures ∙ e)

pub returns-in_err-settings_refusal : goal.returns-in_err-settings_refusal
returns-in_err-settings_refusal c =
    let e : c.from_residual.result ≡ Err c.in_err-settings_refusal.field-0.0 = search rules in
    ap found_number e ∙ setup_first _ _ _ _ _ _ c.boards_fit-fit.ensures c.in_err-settings_refusal.ensures (never_0 _)

pub returns : goal.returns
returns c = setup_last _ _ _ _ _ _ c.boards_fit-fit.ensures c.in_ok-settings_refusal.ensures refl c.rules_refusal.ensures
