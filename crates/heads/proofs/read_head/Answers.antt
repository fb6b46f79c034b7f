-- `heads::read_head` meets its contract: where the size is passed, the maximum decides.
use Rattle.std.proofs.lemmas.Result.{err_from_is_err_and}
use Rattle.heads.proofs.Heads.{head_size_lem, head_maximum, head_other, head_right}
use Rattle.heads.proofs.read_head.Goals as goal

pub returns-in_err-size : goal.returns-in_err-size
returns-in_err-size c = let p = err_from_is_err_and c.from_residual.result c.from_residual.ensures.1 in rw (p.1, p.2) (head_size_lem _ c.in_err-size.ensures)

pub returns-in_err-maximum : goal.returns-in_err-maximum
returns-in_err-maximum c = let p = err_from_is_err_and c.from_residual-in_err-maximum.result c.from_residual-in_err-maximum.ensures.1 in
    rw (p.1, p.2) (head_maximum _ c.in_ok-size.ensures c.in_err-maximum.ensures)

pub returns-then-maximum-ne17 : goal.returns-then-maximum-ne17
returns-then-maximum-ne17 c = head_other _ c.in_ok-size.ensures c.in_ok-maximum.ensures c.if-maximum-ne17.true

pub returns : goal.returns
returns c = head_right _ c.in_ok-size.ensures c.in_ok-maximum.ensures c.if-maximum-ne17.false
