-- `boards::row_fault` meets its contract: the numbers of the row before `column` are right. Assumes nothing.
use mathlib.Core.Path.{refl, sym}
use Prim.Native.Nat.{ℕ}
use native.Mathlib.Omega.{arith}
use borrow.Author.Rules.{rules}
use Rattle.rules.specs.Words.{every}
use Rattle.rules.specs.Grid.{cell_of}
use Rattle.rules.specs.Board.{number_ok}
use Rattle.cells.proofs.Words.{every_turn}
use Rattle.cells.proofs.Firsts.{first_at, first_none}
use Rattle.boards.proofs.Scans.{every_end}
use Rattle.boards.proofs.Tests.{says_no, says_yes}
use mathlib.Core.Path.{ap}
use mathlib.Core.Bool.{not}
use Rattle.boards.proofs.row_fault.Goals as goal

pub loop-column-init : goal.loop-column-init
unfolding every
loop-column-init c = refl

pub number_ok-requires : goal.number_ok-requires
number_ok-requires c = record { mined = c.requires.mined; row_lt_rows = (c.requires.row_lt_rows, search rules) }

pub returns-then-not-number_ok : goal.returns-then-not-number_ok
returns-then-not-number_ok c = let a = c.args in
    sym
    (first_at (λ j. number_ok a.mines.now a.rows a.columns (cell_of a.columns a.row j)) a.columns
    c.loop-column.column (search rules) c.loop-column.invariant (says_no c.number_ok.ensures (ap not c.if-not-number_ok.true)))

pub loop-column-preserved : goal.loop-column-preserved
loop-column-preserved c = let a = c.args in every_turn (λ j. number_ok a.mines.now a.rows a.columns (cell_of a.columns a.row j))
    c.loop-column.column c.loop-column.invariant (says_yes c.number_ok.ensures (ap not c.if-not-number_ok.false))

pub returns : goal.returns
returns c = let a = c.args in
    let f = λ (j : ℕ). number_ok a.mines.now a.rows a.columns (cell_of a.columns a.row j) in
    sym (first_none f a.columns (every_end f a.columns c.loop-column.column (omega arith) (omega arith) c.loop-column.invariant))
