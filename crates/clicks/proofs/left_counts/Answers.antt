-- `left_counts`: one added to lce, and what the cell solves to solved_left.
use mathlib.Core.Path.{◌∙◌}
use native.Mathlib.Omega.{arith}
use Rattle.cells.proofs.Words.{byte_bit}
use Rattle.clicks.proofs.left_counts.Goals as goal

pub overflow_add-n : goal.overflow_add-n
overflow_add-n c = omega (arith, (byte_bit _ c.from-one.ensures).1, c.requires)

pub returns : goal.returns
returns c = c.with_solved_left.ensures ∙ simp (c.with_lce-q.ensures, (byte_bit _ c.from-one.ensures).0)
