-- `cells::see` meets its contract.
use borrow.Author.Tests.{ne_eqb}
use Rattle.cells.proofs.Face.{saw_none, saw_flag, saw_closed, unseen}
use Rattle.cells.proofs.see.Goals as goal

pub returns-then-shown-q : goal.returns-then-shown-q
returns-then-shown-q c = saw_none _ _ _ (unseen c.args.shown.now _ 10 c.if-shown-q.true) (unseen c.args.shown.now _ 9 c.if-shown-q.true)

pub returns-then-v-eq11 : goal.returns-then-v-eq11
returns-then-v-eq11 c = saw_flag _ _ _ c.if-v-eq11.true

pub returns-then-v-eq10 : goal.returns-then-v-eq10
returns-then-v-eq10 c = saw_closed _ _ _ c.if-v-eq10.true

pub returns : goal.returns
returns c = saw_none _ _ _ (ne_eqb _ _ c.if-v-eq11.false) (ne_eqb _ _ c.if-v-eq10.false)
