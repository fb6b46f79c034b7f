-- `judging::mark_zero`: a store among the marks, then the pushes.
use mathlib.Core.Path.{◌∙◌}
use lib.ListN.{length-set}
use Rattle.judging.proofs.mark_zero.Goals as goal

pub shape_of-work : goal.shape_of-work
shape_of-work c = c.push_around.auto.work ∙ simp length-set
