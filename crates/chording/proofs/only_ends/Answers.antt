-- `chording::only_ends` meets its contract: a yes is that of the inner cells, where the row has some on either side.
use native.Mathlib.Omega.{arith}
use Rattle.chording.proofs.Seeking.{three_rows, ends_no, ends_are}
use Rattle.chording.proofs.only_ends.Goals as goal

pub returns-then-row-lt1 : goal.returns-then-row-lt1
returns-then-row-lt1 c = ends_no _ _ _ _

pub returns-then-rows-row : goal.returns-then-rows-row
returns-then-rows-row c = ends_no _ _ _ _

pub returns-then-columns-lt2 : goal.returns-then-columns-lt2
returns-then-columns-lt2 c = ends_no _ _ _ _

pub overflow_mul-row : goal.overflow_mul-row
overflow_mul-row c = omega (arith, three_rows c.args.rows c.args.columns c.args.row c.if-row-lt1.false c.if-rows-row.false, c.requires.sized.cells)

pub none_inside-requires : goal.none_inside-requires
none_inside-requires c = record { le_columns = (c.if-columns-lt2.false, c.requires.sized.columns64); columns_in_bounds = omega (arith, three_rows c.args.rows c.args.columns c.args.row c.if-row-lt1.false c.if-rows-row.false, c.requires.shown_len); shown_len_bound = omega (arith, c.requires.shown_len, c.requires.sized.cells) }

pub returns : goal.returns
returns c = ends_are _ _ _ _ _ c.if-row-lt1.false c.if-rows-row.false c.none_inside.ensures
