-- `heads::read_size` meets its contract: at each way out the tests that led there say what the chain comes to.
use mathlib.Core.Path.{◌∙◌, sym, ap}
use mathlib.Core.Bool.{not}
use borrow.Author.Tests.{not-true, not-false}
use Rattle.std.proofs.lemmas.Result.{err_from_is_err_and}
use Rattle.heads.proofs.Heads.{size_unmarked, size_width, size_height, size_wrong, size_right}
use Rattle.heads.proofs.read_size.Goals as goal

pub returns-then-not-is_marked : goal.returns-then-not-is_marked
returns-then-not-is_marked c = size_unmarked _ (sym c.is_marked.ensures ∙ not-true _ (ap not c.if-not-is_marked.true))

pub returns-in_err-width : goal.returns-in_err-width
returns-in_err-width c = let marked = sym c.is_marked.ensures ∙ not-false _ (ap not c.if-not-is_marked.false) in
    let p = err_from_is_err_and c.from_residual.result c.from_residual.ensures.1 in rw (p.1, p.2) (size_width _ marked c.in_err-width.ensures)

pub returns-in_err-height : goal.returns-in_err-height
returns-in_err-height c = let marked = sym c.is_marked.ensures ∙ not-false _ (ap not c.if-not-is_marked.false) in
    let p = err_from_is_err_and c.from_residual-in_err-height.result c.from_residual-in_err-height.ensures.1 in
    rw (p.1, p.2) (size_height _ marked c.in_ok-width.ensures c.in_err-height.ensures)

pub returns-then-not-size_ok : goal.returns-then-not-size_ok
returns-then-not-size_ok c = let marked = sym c.is_marked.ensures ∙ not-false _ (ap not c.if-not-is_marked.false) in
    size_wrong _ marked c.in_ok-width.ensures c.in_ok-height.ensures c.size_ok.ensures (not-true _ (ap not c.if-not-size_ok.true))

pub returns : goal.returns
returns c = let marked = sym c.is_marked.ensures ∙ not-false _ (ap not c.if-not-is_marked.false) in
    size_right _ marked c.in_ok-width.ensures c.in_ok-height.ensures c.size_ok.ensures (not-false _ (ap not c.if-not-size_ok.false))
