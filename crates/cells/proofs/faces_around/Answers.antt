-- `cells::faces_around` meets its contract: an inner cell by its ring, any other place by place.
use native.Mathlib.Omega.{arith}
use mathlib.Core.Path.{sym, ◌∙◌}
use Rattle.cells.specs.Ground.{face_is}
use Rattle.cells.proofs.Grid.{inner_test, inner_around, inner_last}
use Rattle.cells.proofs.faces_around.Goals as goal

pub overflow_sub-first : goal.overflow_sub-first
overflow_sub-first c = let i = inner_test c.args.rows c.args.columns c.args.row c.args.column (sym c.is_inner.ensures ∙ c.if-is_inner.true) in omega (arith, i.above)

pub overflow_mul-first : goal.overflow_mul-first
overflow_mul-first c = let i = inner_test c.args.rows c.args.columns c.args.row c.args.column (sym c.is_inner.ensures ∙ c.if-is_inner.true) in omega (arith, inner_last c.args.rows c.args.columns c.args.row c.args.column i, c.requires.mined.sized.cells)

pub overflow_sub-first-then-is_inner : goal.overflow_sub-first-then-is_inner
overflow_sub-first-then-is_inner c = let i = inner_test c.args.rows c.args.columns c.args.row c.args.column (sym c.is_inner.ensures ∙ c.if-is_inner.true) in omega (arith, i.before)

pub overflow_add-first : goal.overflow_add-first
overflow_add-first c = let i = inner_test c.args.rows c.args.columns c.args.row c.args.column (sym c.is_inner.ensures ∙ c.if-is_inner.true) in omega (arith, inner_last c.args.rows c.args.columns c.args.row c.args.column i, c.requires.mined.sized.cells)

pub ring_faces-requires : goal.ring_faces-requires
ring_faces-requires c = let i = inner_test c.args.rows c.args.columns c.args.row c.args.column (sym c.is_inner.ensures ∙ c.if-is_inner.true) in let l = inner_last c.args.rows c.args.columns c.args.row c.args.column i in record { columns_bound = c.requires.mined.sized.columns64; columns_in_bounds = omega (arith, c.requires.mined.long); mines_len_bound = omega (arith, c.requires.mined.long, c.requires.mined.sized.cells); valued = c.requires.mined.valued }

pub returns-then-is_inner : goal.returns-then-is_inner
returns-then-is_inner c = let i = inner_test c.args.rows c.args.columns c.args.row c.args.column (sym c.is_inner.ensures ∙ c.if-is_inner.true) in (c.ring_faces.ensures.0 ∙ sym (inner_around _ _ _ _ i (face_is c.args.mines.now c.args.f)), c.ring_faces.ensures.1)

pub edge_faces-requires : goal.edge_faces-requires
edge_faces-requires c = record { sized = c.requires.mined.sized; row_lt_rows = c.requires.row_lt_rows; valued = c.requires.mined.valued }
