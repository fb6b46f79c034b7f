-- `book::read_mines` meets its contract. The invariant: n mines are read and right, and what is left to read is what the section says.
use borrow.Author.Tests.{not-true, not-false}
use native.Mathlib.Omega.{arith}
use mathlib.Core.Path.{◌∙◌, sym, ap, refl}
use Rattle.cells.proofs.Words.{bytes_product, product_same}
use Rattle.book.proofs.Reading.{mines_short_count, mines_too_many, reached_start, reached_short, reached_wrong, reached_more, reached_done}
use mathlib.Core.Bool.{not}
use Rattle.book.proofs.read_mines.Goals as goal

pub returns-then-s-at : goal.returns-then-s-at
returns-then-s-at c = c.refuse.ensures ∙ sym (mines_short_count _ _ _ 0 0 c.if-s-at.true)

pub overflow_mul-from : goal.overflow_mul-from
overflow_mul-from c = record { fits = omega (arith, bytes_product c.from.result c.from-2.result (omega arith) (omega arith)) }

pub returns-then-from-mines : goal.returns-then-from-mines
returns-then-from-mines c = c.refuse-then-from-mines.ensures ∙ sym (mines_too_many _ _ _ _ _ c.if-s-at.false c.word_at-mines.ensures.0 (product_same c.from.ensures c.from-2.ensures) c.if-from-mines.true)

pub loop-n-init : goal.loop-n-init
loop-n-init c = reached_start _ _ _ _ _ c.if-s-at.false c.word_at-mines.ensures.0 (product_same c.from.ensures c.from-2.ensures) c.if-from-mines.false

pub returns-then-s-place : goal.returns-then-s-place
returns-then-s-place c = c.refuse-then-s-place.ensures ∙ sym (reached_short _ _ _ _ _ _ _ c.loop-n.invariant c.loop-n-test.true c.if-s-place.true)

pub returns-then-not-mine_fits : goal.returns-then-not-mine_fits
returns-then-not-mine_fits c = c.refuse-then-not-mine_fits.ensures ∙ sym (reached_wrong _ _ _ _ _ _ _ c.loop-n.invariant _ _ c.loop-n-test.true c.if-s-place.false refl refl (sym c.mine_fits.ensures ∙ not-true _ (ap not c.if-not-mine_fits.true)))

pub loop-n-preserved : goal.loop-n-preserved
loop-n-preserved c = reached_more _ _ _ _ _ _ _ c.loop-n.invariant _ _ c.loop-n-test.true c.if-s-place.false refl refl _ (sym c.mine_fits.ensures ∙ not-false _ (ap not c.if-not-mine_fits.false)) c.cell-next.ensures.0

pub read_events-requires : goal.read_events-requires
read_events-requires c = c.loop-n.invariant.within

pub returns : goal.returns
returns c = c.read_events.ensures ∙ sym (reached_done _ _ _ _ _ _ _ c.loop-n.invariant c.loop-n-test.false)
