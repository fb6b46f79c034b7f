-- `judging::push_free`: one store at the top where the cell is free, none where it is not.
use mathlib.Core.Path.{sym, ◌∙◌}
use native.Mathlib.Omega.{arith}
use Rattle.cells.proofs.Stack.{grown_push, grown_none}
use Rattle.judging.proofs.push_free.Goals as goal

pub returns-then-free : goal.returns-then-free
returns-then-free c = grown_push _ _ _ _ (sym c.free.ensures ∙ c.if-free.true) (omega arith)

pub returns : goal.returns
returns c = grown_none _ _ _ _ _ (sym c.free.ensures ∙ c.if-free.false)
