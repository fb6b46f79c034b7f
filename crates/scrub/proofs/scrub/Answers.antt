-- `scrub::scrub` meets its contract.
use mathlib.Core.Path.{sym}
use native.Mathlib.Omega.{arith}
use lib.Seq.{length-take-le}
use Rattle.scrub.proofs.Telling.{opened_book, opened_place}
use Rattle.scrub.proofs.scrub.Goals as goal

pub refuse-requires : goal.refuse-requires
refuse-requires g c = opened_place c.args.s.now c.open-o.result c.open-o.ensures c.requires

pub slice_bounds-walk-end : goal.slice_bounds-walk-end
slice_bounds-walk-end g c = sym (length-take-le _ _ (omega arith))

pub walk-requires : goal.walk-requires
walk-requires g c = (c.read_book-b.ensures, opened_book c.args.s.now c.open-o.result c.open-o.ensures c.if-o-ne0.false c.read_book-b.result c.read_book-b.ensures)
