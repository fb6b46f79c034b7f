-- `player::print_book` meets its contract: less than enough leaves all as it was, enough is what printing asks.
use mathlib.Core.Path.{sym, ◌∙◌}
use borrow.Author.Tests.{not-true, not-false}
use Rattle.player.proofs.Lending.{enough_means, printed_none, printed_some}
use mathlib.Core.Path.{ap}
use mathlib.Core.Bool.{not}
use Rattle.player.proofs.print_book.Goals as goal

pub returns-then-not-enough : goal.returns-then-not-enough
returns-then-not-enough c = printed_none _ _ _ _ _ _ c.enough.ensures (not-true _ (ap not c.if-not-enough.true))

pub print_lent-requires : goal.print_lent-requires
print_lent-requires c = enough_means (sym c.enough.ensures ∙ not-false _ (ap not c.if-not-enough.false))

pub returns : goal.returns
returns c = printed_some _ _ _ _ _ _ c.enough.ensures (not-false _ (ap not c.if-not-enough.false)) c.print_lent.ensures
