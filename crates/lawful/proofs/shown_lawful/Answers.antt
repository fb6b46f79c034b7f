-- `lawful::shown_lawful` meets its contract.
use borrow.Author.Rules.{rules}
use Rattle.lawful.proofs.Tests.{shown_is}
use Rattle.lawful.proofs.shown_lawful.Goals as goal

pub returns : goal.returns
returns c = λ bits. shown_is _ _ c.requires.counted _ c.args.p bits _ _ (search rules) c.cells_lawful-fine.ensures
