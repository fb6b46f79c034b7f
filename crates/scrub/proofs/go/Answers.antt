-- `scrub::go` meets its contract.
use mathlib.Core.Path.{sym}
use native.Mathlib.Omega.{arith}
use lib.Seq.{length-take-le}
use Rattle.scrub.proofs.Telling.{book_sized}
use Rattle.scrub.proofs.go.Goals as goal

pub slice_bounds-mines-end : goal.slice_bounds-mines-end
slice_bounds-mines-end g c = let f = (book_sized c.args.s.now c.args.b c.requires.0 c.requires.1).cells in omega arith

pub slice_bounds-drag_on-end : goal.slice_bounds-drag_on-end
slice_bounds-drag_on-end g c = let f = (book_sized c.args.s.now c.args.b c.requires.0 c.requires.1).cells in sym (length-take-le _ _ (omega arith))

pub slice_bounds-shown-end : goal.slice_bounds-shown-end
slice_bounds-shown-end g c = let f = (book_sized c.args.s.now c.args.b c.requires.0 c.requires.1).cells in omega arith

pub slice_bounds-drag_on-end-2 : goal.slice_bounds-drag_on-end-2
slice_bounds-drag_on-end-2 g c = let f = (book_sized c.args.s.now c.args.b c.requires.0 c.requires.1).cells in sym (length-take-le _ _ (omega arith))

pub slice_bounds-bits-end : goal.slice_bounds-bits-end
slice_bounds-bits-end g c = let f = (book_sized c.args.s.now c.args.b c.requires.0 c.requires.1).cells in omega arith

pub slice_bounds-drag_on-end-3 : goal.slice_bounds-drag_on-end-3
slice_bounds-drag_on-end-3 g c = let f = (book_sized c.args.s.now c.args.b c.requires.0 c.requires.1).cells in sym (length-take-le _ _ (omega arith))

pub drag_on-requires : goal.drag_on-requires
drag_on-requires g c = record { b_value = c.requires; columns_in_bounds = (let f = (book_sized c.args.s.now c.args.b c.requires.0 c.requires.1).cells in let l = length-take-le c.cell_count-cells.result c.shown_board-shown.result (omega arith) in omega arith) }
