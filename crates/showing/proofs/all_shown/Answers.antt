-- `showing::all_shown` meets its contract: each value is shown, or one of them is not.
use mathlib.Core.Path.{◌≡◌}
use mathlib.Core.Bool.{true, false}
use borrow.Author.Rules.{rules}
use Rattle.std.proofs.lemmas.Iterator.{cases_from_all, YieldsList-from_slice}
use Rattle.rules.specs.Picture.{is_shown}
use Rattle.showing.proofs.Shown.{scanned}
use Rattle.showing.proofs.all_shown.Goals as goal

pub returns : goal.returns
returns c = scanned _ _
    (cases_from_all _ _ _ (λ v. is_shown v ≡ true) (λ v. is_shown v ≡ false) c.all.ensures.ran (YieldsList-from_slice c.args.shown.now cc)
    (λ x q k. search rules) (λ x q k. search rules))
