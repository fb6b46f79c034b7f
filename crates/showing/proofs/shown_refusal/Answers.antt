-- `showing::shown_refusal` meets its contract: each `return` is one case of the chain.
use borrow.Author.Tests.{not-true, not-false}
use Rattle.boards.proofs.Tests.{says_no, says_yes}
use Rattle.showing.proofs.Shown.{refused_size, refused_length, refused_last}
use mathlib.Core.Path.{ap}
use mathlib.Core.Bool.{not}
use Rattle.showing.proofs.shown_refusal.Goals as goal

pub returns-then-not-size_ok : goal.returns-then-not-size_ok
returns-then-not-size_ok c = refused_size _ _ _ _ (says_no c.size_ok.ensures (ap not c.if-not-size_ok.true))

pub returns-then-not-fits : goal.returns-then-not-fits
returns-then-not-fits c = refused_length _ _ _ _ (says_yes c.size_ok.ensures (ap not c.if-not-size_ok.false)) c.cell_count.ensures.0 (not-true _ (ap not c.if-not-fits.true))

pub returns-then-not-all_shown : goal.returns-then-not-all_shown
returns-then-not-all_shown c = refused_last _ _ _ _ (says_yes c.size_ok.ensures (ap not c.if-not-size_ok.false)) c.cell_count.ensures.0 (not-false _ (ap not c.if-not-fits.false)) (says_no c.all_shown.ensures (ap not c.if-not-all_shown.true))

pub returns : goal.returns
returns c = refused_last _ _ _ _ (says_yes c.size_ok.ensures (ap not c.if-not-size_ok.false)) c.cell_count.ensures.0 (not-false _ (ap not c.if-not-fits.false)) (says_yes c.all_shown.ensures (ap not c.if-not-all_shown.false))
