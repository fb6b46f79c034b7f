-- `board::blank` meets its contract.
use borrow.Author.Rules.{rules}
use Rattle.board.proofs.Stepping.{blanked}
use Rattle.board.proofs.blank.Goals as goal

pub returns : goal.returns
returns c = blanked c.args.s _ _ _ c.cell_count-cells.ensures.0 (c.requires) c.clear.ensures (search rules)
