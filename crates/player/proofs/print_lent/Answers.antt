-- `player::print_lent` meets its contract: a refusal's place is no further than the bytes, and an accepted book's boards are parts of what is lent.
use mathlib.Core.Path.{sym}
use native.Mathlib.Omega.{arith}
use lib.Seq.{length-take-le}
use Rattle.player.proofs.Refusing.{place_within, book_cells, book_fit}
use Rattle.player.proofs.Lending.{printed_refused, printed_played}
use Rattle.player.proofs.print_lent.Goals as goal

pub put_refused-requires : goal.put_refused-requires
put_refused-requires c = let h = place_within _ c.read_book-b.result c.read_book-b.ensures in (omega arith, omega arith)

pub returns-then-b-ne0 : goal.returns-then-b-ne0
returns-then-b-ne0 c = printed_refused _ c.read_book-b.result c.read_book-b.ensures _ _ _ _ _ c.requires c.if-b-ne0.true c.put_refused.ensures

pub slice_bounds-print_game-end : goal.slice_bounds-print_game-end
slice_bounds-print_game-end c = let h = book_cells _ c.read_book-b.result c.read_book-b.ensures c.if-b-ne0.false c.cell_count-cells.ensures.0 in omega arith

pub slice_bounds-print_game-end-2 : goal.slice_bounds-print_game-end-2
slice_bounds-print_game-end-2 c = let h = book_cells _ c.read_book-b.result c.read_book-b.ensures c.if-b-ne0.false c.cell_count-cells.ensures.0 in sym (length-take-le _ c.args.mines.now (omega arith))

pub slice_bounds-print_game-end-3 : goal.slice_bounds-print_game-end-3
slice_bounds-print_game-end-3 c = let h = book_cells _ c.read_book-b.result c.read_book-b.ensures c.if-b-ne0.false c.cell_count-cells.ensures.0 in omega arith

pub slice_bounds-print_game-end-4 : goal.slice_bounds-print_game-end-4
slice_bounds-print_game-end-4 c = let h = book_cells _ c.read_book-b.result c.read_book-b.ensures c.if-b-ne0.false c.cell_count-cells.ensures.0 in sym (length-take-le _ c.args.shown.now (omega arith))

pub slice_bounds-print_game-end-5 : goal.slice_bounds-print_game-end-5
slice_bounds-print_game-end-5 c = let h = book_cells _ c.read_book-b.result c.read_book-b.ensures c.if-b-ne0.false c.cell_count-cells.ensures.0 in omega arith

pub slice_bounds-print_game-end-6 : goal.slice_bounds-print_game-end-6
slice_bounds-print_game-end-6 c = let h = book_cells _ c.read_book-b.result c.read_book-b.ensures c.if-b-ne0.false c.cell_count-cells.ensures.0 in sym (length-take-le _ c.args.bits.now (omega arith))

pub print_game-requires : goal.print_game-requires
print_game-requires c = record { b_value = (c.read_book-b.ensures, c.if-b-ne0.false); fit = book_fit _ c.read_book-b.result c.read_book-b.ensures c.if-b-ne0.false c.cell_count-cells.ensures.0 c.args.mines.now c.args.shown.now c.args.bits.now c.args.work.now c.requires; in_bounds = c.requires.text }

pub returns : goal.returns
returns c = printed_played _ c.read_book-b.result c.read_book-b.ensures _ _ _ _ _ c.requires (book_cells _ c.read_book-b.result c.read_book-b.ensures c.if-b-ne0.false c.cell_count-cells.ensures.0) c.if-b-ne0.false c.print_game.ensures c.print_game.auto.mines c.print_game.auto.shown c.print_game.auto.bits
