-- `trainer::justifier_of` meets its contract: no place passed so far justifies the cell.
use mathlib.Core.Path.{◌≡◌, ap}
use mathlib.Core.Bool.{not}
use native.Mathlib.Omega.{arith}
use Rattle.cells.proofs.Grid.{on_grid}
use Rattle.cells.proofs.Words.{every_turn}
use Rattle.cells.proofs.Firsts.{first_none}
use Rattle.trainer.proofs.Firsts.{misses, none_all, first_found, found_at, found_none}
use Rattle.trainer.proofs.Hints.{beside, beside_at}
use Rattle.trainer.proofs.justifier_of.Goals as goal

pub loop-k-init : goal.loop-k-init
loop-k-init c = let a = c.args in none_all (beside a.rows a.columns a.shown.now a.cell) 0 (λ i l. absurd (omega arith))

pub neighbour_at-q-requires : goal.neighbour_at-q-requires
neighbour_at-q-requires c = record { sized = c.requires.sized; row_lt_rows = on_grid _ _ _ c.requires.sized.column c.requires.cell_bound; k_bound = c.loop-k-test.true }

pub justifies_at-fine-requires : goal.justifies_at-fine-requires
justifies_at-fine-requires c = record { sized = c.requires.sized; shown_len = c.requires.shown_len }

pub returns-then-fine : goal.returns-then-fine
returns-then-fine c = let a = c.args in
    found_at _ _ _
    (first_found (beside a.rows a.columns a.shown.now a.cell) 8 _ c.loop-k.invariant
    (beside_at _ _ a.shown.now _ _ c.neighbour_at-q.ensures c.justifies_at-fine.ensures c.if-fine.true) c.loop-k-test.true) c.loop-k-test.true

pub loop-k-preserved : goal.loop-k-preserved
loop-k-preserved c = let a = c.args in
    every_turn (misses (beside a.rows a.columns a.shown.now a.cell)) _ c.loop-k.invariant
    (ap not (beside_at _ _ a.shown.now _ _ c.neighbour_at-q.ensures c.justifies_at-fine.ensures c.if-fine.false))

pub returns : goal.returns
returns c = let a = c.args in
    let e : c.loop-k.k ≡ 8 = omega arith in
    let q = first_none (misses (beside a.rows a.columns a.shown.now a.cell)) 8 (rw e at c.loop-k.invariant) in found_none _ _ (omega arith)
