-- `from_picture::print_rows` meets its contract: the refusal's line, or the rows.
use mathlib.Core.Path.{sym}
use lib.Seq.{length-take-le}
use Rattle.from_picture.proofs.Printing.{refused_room, refused_printed, cells_within, rows_fit, rows_printed_lem}
use Rattle.from_picture.proofs.print_rows.Goals as goal

pub put_word_line-requires : goal.put_word_line-requires
put_word_line-requires c = refused_room c.from.result c.requires.1

pub returns-then-p-ne0 : goal.returns-then-p-ne0
returns-then-p-ne0 c = let args = c.args in refused_printed args.s.now args.cells.now c.requires.0 c.read_picture-p.ensures c.if-p-ne0.true (rw c.from.ensures at c.put_word_line.ensures)

pub slice_bounds-put_rows-end : goal.slice_bounds-put_rows-end
slice_bounds-put_rows-end c = let args = c.args in
    cells_within args.s.now args.cells.now c.requires.0 c.read_picture-p.ensures c.if-p-ne0.false c.cell_count-n.ensures.0 c.read_picture-p.auto.cells

pub slice_bounds-put_rows-end-2 : goal.slice_bounds-put_rows-end-2
slice_bounds-put_rows-end-2 c = let args = c.args in
    sym (length-take-le _ _ (cells_within args.s.now args.cells.now c.requires.0 c.read_picture-p.ensures c.if-p-ne0.false c.cell_count-n.ensures.0 c.read_picture-p.auto.cells))

pub put_rows-requires : goal.put_rows-requires
put_rows-requires c = let args = c.args in
    rows_fit args.s.now args.cells.now c.requires.0 c.read_picture-p.ensures c.if-p-ne0.false c.cell_count-n.ensures.0 c.from-rows.ensures c.from-columns.ensures
    c.read_picture-p.auto.cells c.requires.1

pub returns : goal.returns
returns c = let args = c.args in
    rows_printed_lem args.s.now args.cells.now c.requires.0 c.read_picture-p.ensures c.if-p-ne0.false c.cell_count-n.ensures.0 c.from-rows.ensures c.from-columns.ensures
    c.put_rows.ensures
