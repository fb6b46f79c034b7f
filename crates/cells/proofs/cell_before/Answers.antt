-- `cells::cell_before` meets its contract.
use Prim.Native.Nat.{◌-◌}
use borrow.Author.Tests.{le-leb, lt-leb}
use native.Mathlib.Omega.{arith}
use Rattle.rules.specs.Grid.{cell_before}
use Rattle.cells.proofs.Grid.{cell_lt}
use Rattle.cells.proofs.cell_before.Goals as goal

pub returns-then-r-lt1 : goal.returns-then-r-lt1
unfolding cell_before
returns-then-r-lt1 c = simp (lt-leb _ _ c.if-r-lt1.true)

pub returns-then-rows-r : goal.returns-then-rows-r
unfolding cell_before
returns-then-rows-r c = simp (le-leb _ _ c.if-r-lt1.false, lt-leb _ _ c.if-rows-r.true)

pub returns-then-c-lt1 : goal.returns-then-c-lt1
unfolding cell_before
returns-then-c-lt1 c = simp (le-leb _ _ c.if-r-lt1.false, le-leb _ _ c.if-rows-r.false, lt-leb _ _ c.if-c-lt1.true)

pub returns-then-columns-c : goal.returns-then-columns-c
unfolding cell_before
returns-then-columns-c c = simp (le-leb _ _ c.if-r-lt1.false, le-leb _ _ c.if-rows-r.false, le-leb _ _ c.if-c-lt1.false, lt-leb _ _ c.if-columns-c.true)

pub overflow_mul-result-2 : goal.overflow_mul-result-2
overflow_mul-result-2 c = let a = c.args in omega (arith, c.requires.cells, cell_lt a.rows a.columns (a.r - 1) (a.c - 1) (omega (arith, c.if-r-lt1.false, c.if-rows-r.false)) (omega (arith, c.if-c-lt1.false, c.if-columns-c.false)))

pub overflow_add-result : goal.overflow_add-result
overflow_add-result c = let a = c.args in omega (arith, c.requires.cells, cell_lt a.rows a.columns (a.r - 1) (a.c - 1) (omega (arith, c.if-r-lt1.false, c.if-rows-r.false)) (omega (arith, c.if-c-lt1.false, c.if-columns-c.false)))

pub returns : goal.returns
unfolding cell_before
returns c = simp (le-leb _ _ c.if-r-lt1.false, le-leb _ _ c.if-rows-r.false, le-leb _ _ c.if-c-lt1.false, le-leb _ _ c.if-columns-c.false)
