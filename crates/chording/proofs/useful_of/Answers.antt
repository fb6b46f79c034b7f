-- `chording::useful_of` meets its contract: from the first cell on, or the two ends.
use mathlib.Core.Path.{sym, ◌∙◌}
use borrow.Author.Tests.{not-false}
use native.Mathlib.Omega.{arith}
use Rattle.chording.proofs.Seeking.{sought_start, sought_found, sought_first, ends_sought}
use mathlib.Core.Path.{ap}
use mathlib.Core.Bool.{not}
use Rattle.chording.proofs.useful_of.Goals as goal

pub returns-then-useful_at : goal.returns-then-useful_at
returns-then-useful_at c = sought_found _ _ _ _ (sought_start _ _ _ (omega arith)) (sym c.useful_at.ensures ∙ c.if-useful_at.true)

pub returns : goal.returns
returns c = sought_first _ _ _ _ (ends_sought _ _ _ _ _ c.only_ends.ensures (not-false _ (ap not c.if-not-only_ends.false)) c.requires.sized.column (sym c.useful_at.ensures ∙ c.if-useful_at.false)) _ c.useful_from-2.ensures
