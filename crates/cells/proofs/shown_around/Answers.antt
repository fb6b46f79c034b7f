-- `cells::shown_around` meets its contract: an inner cell by its ring, any other place by place.
use native.Mathlib.Omega.{arith}
use mathlib.Core.Path.{sym, ◌∙◌}
use Rattle.rules.specs.Opening.{closed_at}
use Rattle.rules.specs.Clicks.{flag_at}
use Rattle.cells.proofs.Grid.{inner_test, inner_around, inner_last}
use Rattle.cells.proofs.shown_around.Goals as goal

pub overflow_sub-first : goal.overflow_sub-first
overflow_sub-first c = let i = inner_test c.args.rows c.args.columns c.args.row c.args.column (sym c.is_inner.ensures ∙ c.if-is_inner.true) in omega (arith, i.above)

pub overflow_mul-first : goal.overflow_mul-first
overflow_mul-first c = let i = inner_test c.args.rows c.args.columns c.args.row c.args.column (sym c.is_inner.ensures ∙ c.if-is_inner.true) in omega (arith, inner_last c.args.rows c.args.columns c.args.row c.args.column i, c.requires.sized.cells)

pub overflow_sub-first-then-is_inner : goal.overflow_sub-first-then-is_inner
overflow_sub-first-then-is_inner c = let i = inner_test c.args.rows c.args.columns c.args.row c.args.column (sym c.is_inner.ensures ∙ c.if-is_inner.true) in omega (arith, i.before)

pub overflow_add-first : goal.overflow_add-first
overflow_add-first c = let i = inner_test c.args.rows c.args.columns c.args.row c.args.column (sym c.is_inner.ensures ∙ c.if-is_inner.true) in omega (arith, inner_last c.args.rows c.args.columns c.args.row c.args.column i, c.requires.sized.cells)

pub ring_shows-flags-requires : goal.ring_shows-flags-requires
ring_shows-flags-requires c = let i = inner_test c.args.rows c.args.columns c.args.row c.args.column (sym c.is_inner.ensures ∙ c.if-is_inner.true) in let l = inner_last c.args.rows c.args.columns c.args.row c.args.column i in record { columns_bound = c.requires.sized.columns64; columns_in_bounds = omega (arith, c.requires.shown_len); shown_len_bound = omega (arith, c.requires.shown_len, c.requires.sized.cells) }

pub ring_shows-closed-requires : goal.ring_shows-closed-requires
ring_shows-closed-requires c = let i = inner_test c.args.rows c.args.columns c.args.row c.args.column (sym c.is_inner.ensures ∙ c.if-is_inner.true) in let l = inner_last c.args.rows c.args.columns c.args.row c.args.column i in record { columns_bound = c.requires.sized.columns64; columns_in_bounds = omega (arith, c.requires.shown_len); shown_len_bound = omega (arith, c.requires.shown_len, c.requires.sized.cells) }

pub returns-then-is_inner : goal.returns-then-is_inner
returns-then-is_inner c = let i = inner_test c.args.rows c.args.columns c.args.row c.args.column (sym c.is_inner.ensures ∙ c.if-is_inner.true) in record {
  flag = c.ring_shows-flags.ensures ∙ sym (inner_around _ _ _ _ i (flag_at c.args.shown.now));
  close = c.ring_shows-closed.ensures ∙ sym (inner_around _ _ _ _ i (closed_at c.args.shown.now));
}
