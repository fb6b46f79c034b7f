-- `printing::begin` meets its contract: the book's mine list is refused on no board of its size, and its desk is made fresh.
use Rattle.printing.proofs.Beginning.{begun_mined, begun}
use Rattle.printing.proofs.begin.Goals as goal

pub fresh_desk-requires : goal.fresh_desk-requires
fresh_desk-requires c = record { mined = begun_mined _ c.args.b c.requires.b_value.0 c.requires.b_value.1 _ c.requires.fit.mine c.mines-list.ensures c.number_mines.ensures; shown_len = c.requires.fit.cell; bits_len = c.requires.fit.byte }

pub returns : goal.returns
returns c = begun _ c.args.b c.requires.b_value.0 c.requires.b_value.1 _ c.requires.fit.mine c.mines-list.ensures c.number_mines.ensures c.cell_count-cells.ensures.0 c.clear.ensures c.fresh_desk.ensures
