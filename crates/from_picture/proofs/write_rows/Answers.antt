-- `from_picture::write_rows` meets its contract: every room has its length, and what is handed over is what is printed.
use mathlib.Core.Path.{sym}
use lib.Seq.{length-take-le}
use Rattle.from_picture.proofs.Printing.{handed_fits, handed_whole}
use Rattle.from_picture.proofs.write_rows.Goals as goal

pub slice_bounds-hand-end : goal.slice_bounds-hand-end
slice_bounds-hand-end g c = sym (length-take-le _ _ (handed_fits c.text_room-out.ensures c.print_rows-n.ensures c.print_rows-n.auto.out))

pub hand-requires : goal.hand-requires
hand-requires g c = handed_whole c.text_room-out.ensures c.print_rows-n.ensures
