-- `boards::number_fault` meets its contract: the rows before `row` are right. Assumes nothing.
use mathlib.Core.Path.{◌≡◌, ap, sym, ◌∙◌}
use Prim.Native.Nat.{ℕ, ◌*◌}
use native.Mathlib.Omega.{arith}
use borrow.Author.Rules.{rules}
use lib.ListN.{length}
use Rattle.rules.specs.Words.{every}
use Rattle.rules.specs.Board.{number_ok}
use Rattle.cells.proofs.Grid.{cell_lt}
use Rattle.cells.proofs.Firsts.{first_none}
use Rattle.boards.proofs.Scans.{row_found, row_passed}
use Rattle.boards.proofs.number_fault.Goals as goal

pub loop-row-init : goal.loop-row-init
unfolding every
loop-row-init c = let z : 0 * c.args.columns ≡ 0 = omega arith in ap (every (number_ok c.args.mines.now c.args.rows c.args.columns)) z

pub row_fault-column-requires : goal.row_fault-column-requires
row_fault-column-requires c = record { mined = c.requires; row_lt_rows = search rules }

pub overflow_mul-result : goal.overflow_mul-result
overflow_mul-result c = let a = c.args in
    let l = cell_lt a.rows a.columns c.loop-row.row c.row_fault-column.result (search rules) (search rules) in
    record { fits = omega arith }

pub overflow_add-result : goal.overflow_add-result
overflow_add-result c = let a = c.args in
    let l = cell_lt a.rows a.columns c.loop-row.row c.row_fault-column.result (search rules) (search rules) in
    record { fits = omega arith }

pub returns-then-column-columns : goal.returns-then-column-columns
returns-then-column-columns c = let a = c.args in
    row_found (number_ok a.mines.now a.rows a.columns) a.columns c.loop-row.row c.row_fault-column.result
    c.loop-row.invariant c.row_fault-column.ensures a.rows (length a.mines.now) c.requires.long
    (search rules) (search rules)

pub loop-row-preserved : goal.loop-row-preserved
loop-row-preserved c = let a = c.args in row_passed (number_ok a.mines.now a.rows a.columns) a.columns c.loop-row.row c.row_fault-column.result
    c.loop-row.invariant c.row_fault-column.ensures (search rules)

pub returns : goal.returns
returns c = let a = c.args in
    let q : c.loop-row.row ≡ a.rows = omega arith in
    sym (first_none (number_ok a.mines.now a.rows a.columns) (length a.mines.now) (ap (every (number_ok a.mines.now a.rows a.columns)) (c.requires.long ∙ ap (λ (n : ℕ). n * a.columns) (sym q)) ∙ c.loop-row.invariant))
