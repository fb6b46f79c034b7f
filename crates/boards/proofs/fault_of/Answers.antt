-- `boards::fault_of` meets its contract: the search that the number names. Assumes nothing.
use mathlib.Core.Path.{ap, ap₂, sym, ◌∙◌}
use Prim.Native.Nat.{ℕ}
use lib.ListN.{length}
use Rattle.rules.specs.Words.{first_not}
use Rattle.rules.specs.Board.{value_ok_at, number_ok, place_of}
use Rattle.boards.proofs.Tests.{mined_wide}
use Rattle.boards.proofs.Faults.{fault_within, fault_22, fault_23, place_none}
use Rattle.boards.proofs.fault_of.Goals as goal

pub place_of-requires : goal.place_of-requires
place_of-requires c = let a = c.args in
    let h = c.requires.sized c.if-n-eq22.true in
    fault_within a.rows a.columns a.mines.now (value_ok_at a.mines.now) _ h.0 h.1 c.value_fault-cell.ensures

pub returns-then-n-eq22 : goal.returns-then-n-eq22
returns-then-n-eq22 c = let a = c.args in
    c.place_of.ensures ∙ ap (place_of a.columns) c.value_fault-cell.ensures
    ∙ fault_22 a.rows a.columns a.mines.now a.n c.if-n-eq22.true

pub number_fault-cell-requires : goal.number_fault-cell-requires
number_fault-cell-requires c = mined_wide c.args.mines.now c.from.ensures c.from-then-n-eq23.ensures
    (c.requires.valued c.if-n-eq23.true)

pub place_of-requires-then-n-eq23 : goal.place_of-requires-then-n-eq23
place_of-requires-then-n-eq23 c = let a = c.args in
    let m = c.requires.valued c.if-n-eq23.true in
    fault_within a.rows a.columns a.mines.now (number_ok a.mines.now c.from.result c.from-then-n-eq23.result) _ m.sized m.long
    c.number_fault-cell.ensures

pub returns-then-n-eq23 : goal.returns-then-n-eq23
returns-then-n-eq23 c = let a = c.args in
    c.place_of-then-n-eq23.ensures
    ∙ ap (place_of a.columns)
    (c.number_fault-cell.ensures
    ∙ ap₂ (λ (r k : ℕ). first_not (number_ok a.mines.now r k) (length a.mines.now)) c.from.ensures c.from-then-n-eq23.ensures)
    ∙ fault_23 a.rows a.columns a.mines.now a.n c.if-n-eq23.true

pub returns : goal.returns
returns c = let a = c.args in sym (place_none a.rows a.columns a.mines.now a.n c.if-n-eq22.false c.if-n-eq23.false)
