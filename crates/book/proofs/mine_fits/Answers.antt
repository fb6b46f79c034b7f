-- `book::mine_fits` meets its contract: at each return the tests say which case holds.
use borrow.Author.Tests.{lt-ltb, le-ltb}
use Rattle.book.specs.Parts.{mine_fits}
use Rattle.book.proofs.mine_fits.Goals as goal

pub returns-then-rows-row : goal.returns-then-rows-row
unfolding mine_fits
returns-then-rows-row c = simp (le-ltb _ _ c.if-rows-row.true)

pub returns-then-columns-column : goal.returns-then-columns-column
unfolding mine_fits
returns-then-columns-column c = simp (lt-ltb _ _ c.if-rows-row.false, le-ltb _ _ c.if-columns-column.true)

pub returns : goal.returns
unfolding mine_fits
returns c = simp (lt-ltb _ _ c.if-rows-row.false, lt-ltb _ _ c.if-columns-column.false, c.cell.ensures.0)
