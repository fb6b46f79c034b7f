-- `boards::board_refusal` meets its contract: each return is one case of the chain; what passed gives the callees what they require. Assumes nothing.
use borrow.Author.Tests.{not-true, not-false}
use Rattle.cells.proofs.Face.{values_valued}
use Rattle.boards.proofs.Tests.{says_no, says_yes, mined_at, numbers_at, refused_size, refused_fit, refused_values, refused_numbers, refused_last}
use mathlib.Core.Path.{ap}
use mathlib.Core.Bool.{not}
use Rattle.boards.proofs.board_refusal.Goals as goal

pub returns-then-not-size_ok : goal.returns-then-not-size_ok
returns-then-not-size_ok c = refused_size _ _ _ _ (says_no c.size_ok.ensures (ap not c.if-not-size_ok.true))

pub returns-then-not-fit : goal.returns-then-not-fit
returns-then-not-fit c = refused_fit _ _ _ _ (says_yes c.size_ok.ensures (ap not c.if-not-size_ok.false)) (not-true _ (ap not c.if-not-fit.true))

pub returns-then-not-values_ok : goal.returns-then-not-values_ok
returns-then-not-values_ok c = refused_values _ _ _ _ (says_yes c.size_ok.ensures (ap not c.if-not-size_ok.false))
    (not-false _ (ap not c.if-not-fit.false)) (says_no c.values_ok.ensures (ap not c.if-not-values_ok.true))

pub numbers_ok-requires : goal.numbers_ok-requires
numbers_ok-requires c = mined_at c.args.mines.now c.from.ensures c.from-2.ensures
    (says_yes c.size_ok.ensures (ap not c.if-not-size_ok.false))
    (c.requires (not-false _ (ap not c.if-not-fit.false)))
    (says_yes c.values_ok.ensures (ap not c.if-not-values_ok.false))

pub returns-then-not-numbers_ok : goal.returns-then-not-numbers_ok
returns-then-not-numbers_ok c = refused_numbers _ _ _ _
    (says_yes c.size_ok.ensures
    (ap not c.if-not-size_ok.false))
    (not-false _ (ap not c.if-not-fit.false))
    (says_yes c.values_ok.ensures (ap not c.if-not-values_ok.false))
    (says_no
    (numbers_at c.args.mines.now
    c.from.ensures c.from-2.ensures c.numbers_ok.ensures)
    (ap not c.if-not-numbers_ok.true))

pub some_safe-requires : goal.some_safe-requires
some_safe-requires c = values_valued c.args.mines.now
    (says_yes c.values_ok.ensures (ap not c.if-not-values_ok.false))

pub returns-then-not-some_safe : goal.returns-then-not-some_safe
returns-then-not-some_safe c = refused_last _ _ _ _
    (says_yes c.size_ok.ensures
    (ap not c.if-not-size_ok.false))
    (not-false _ (ap not c.if-not-fit.false))
    (says_yes c.values_ok.ensures
    (ap not c.if-not-values_ok.false))
    (says_yes
    (numbers_at c.args.mines.now
    c.from.ensures c.from-2.ensures
    c.numbers_ok.ensures)
    (ap not c.if-not-numbers_ok.false))
    (says_no c.some_safe.ensures (ap not c.if-not-some_safe.true))

pub returns : goal.returns
returns c = refused_last _ _ _ _
    (says_yes c.size_ok.ensures
    (ap not c.if-not-size_ok.false))
    (not-false _ (ap not c.if-not-fit.false))
    (says_yes c.values_ok.ensures
    (ap not c.if-not-values_ok.false))
    (says_yes
    (numbers_at c.args.mines.now
    c.from.ensures c.from-2.ensures
    c.numbers_ok.ensures)
    (ap not c.if-not-numbers_ok.false))
    (says_yes c.some_safe.ensures (ap not c.if-not-some_safe.false))
