-- `numbering::mine_ok` meets its contract: each return is one case of the test. Assumes nothing.
use Rattle.numbering.proofs.Numbering.{mine_below, mine_beside, mine_first, mine_after}
use Rattle.numbering.proofs.mine_ok.Goals as goal

pub returns-then-rows-list : goal.returns-then-rows-list
returns-then-rows-list c = mine_below _ _ _ _ c.if-rows-list.true

pub returns-then-columns-list : goal.returns-then-columns-list
returns-then-columns-list c = mine_beside _ _ _ _ c.if-rows-list.false c.if-columns-list.true

pub returns-then-n-lt1 : goal.returns-then-n-lt1
returns-then-n-lt1 c = mine_first _ _ _ _ c.if-rows-list.false c.if-columns-list.false c.if-n-lt1.true

pub returns : goal.returns
returns c = mine_after _ _ _ _ c.if-rows-list.false c.if-columns-list.false c.if-n-lt1.false
    c.mine_cell.ensures.0 c.mine_cell-2.ensures.0
