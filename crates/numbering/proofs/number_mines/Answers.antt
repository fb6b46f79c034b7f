-- `numbering::number_mines` meets its contract: a refusal writes nothing; else the three passes write the numbered board. Assumes nothing.
use mathlib.Core.Path.{◌≡◌, sym}
use borrow.Author.Rules.{rules}
use lib.ListN.{length, replicate}
use lib.IntN.{pos}
use Rattle.std.specs.Prelude.{Err}
use Rattle.numbering.proofs.Numbering.{numbering_refused, place_ready, number_ready, numbering_done}
use Rattle.numbering.proofs.number_mines.Goals as goal

pub returns-in_err-numbering_refusal : goal.returns-in_err-numbering_refusal
returns-in_err-numbering_refusal c = let a = c.args in
    let e : c.from_residual.result ≡ Err c.in_err-numbering_refusal.field-0.0 = search rules in
    let h = numbering_refused a.rows a.columns a.list.now a.mines.now _ c.in_err-numbering_refusal.ensures in
    rw e h

pub place_mines-requires : goal.place_mines-requires
place_mines-requires c = let a = c.args in
    let clear : c.fill.new.self ≡ replicate (length a.mines.now) (pos 0) = search rules in
    place_ready a.rows a.columns a.list.now a.mines.now (sym c.in_ok-numbering_refusal.ensures) _ clear

pub number_cells-requires : goal.number_cells-requires
number_cells-requires c = let a = c.args in
    let clear : c.fill.new.self ≡ replicate (length a.mines.now) (pos 0) = search rules in
    number_ready a.rows a.columns a.list.now a.mines.now
    (sym c.in_ok-numbering_refusal.ensures) _
    clear _ c.place_mines.ensures
    c.from.ensures c.from-2.ensures

pub returns : goal.returns
returns c = let a = c.args in
    let clear : c.fill.new.self ≡ replicate (length a.mines.now) (pos 0) = search rules in
    numbering_done a.rows a.columns a.list.now a.mines.now
    (sym c.in_ok-numbering_refusal.ensures) _
    clear _
    c.place_mines.ensures _ c.from.ensures
    c.from-2.ensures c.number_cells.ensures
