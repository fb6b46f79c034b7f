-- `refusals::position_refusal` meets its contract: what 20 to 25 have shown lets the position be checked.
use mathlib.Core.Path.{◌≡◌, refl, ap, ◌∙◌}
use borrow.Author.Rules.{rules}
use Rattle.std.specs.Prelude.{Err}
use Rattle.rules.specs.Refusals.{found_number}
use Rattle.rules.specs.Clicks.{desk}
use Rattle.refusals.proofs.Refusals.{fits_mines, position_refused, position_last, checkable}
use Rattle.cells.proofs.Refused.{never_0}
use Rattle.refusals.proofs.position_refusal.Goals as goal

pub settings_refusal-requires : goal.settings_refusal-requires
settings_refusal-requires c = λ e. fits_mines _ _ _ _ (c.requires e)

pub returns-in_err-settings_refusal : goal.returns-in_err-settings_refusal
returns-in_err-settings_refusal c =
    let e : c.from_residual.result ≡ Err c.in_err-settings_refusal.field-0.0 = search rules in
    ap found_number e ∙ position_refused _ _ _ _ c.in_err-settings_refusal.ensures (never_0 _)

pub lawful_refusal-requires : goal.lawful_refusal-requires
lawful_refusal-requires c = checkable _ _ (desk c.args.p c.args.shown.now c.args.bits.now) _ c.in_ok-settings_refusal.ensures refl c.requires

pub returns : goal.returns
returns c = position_last _ _ _ _ c.in_ok-settings_refusal.ensures refl c.lawful_refusal.ensures
