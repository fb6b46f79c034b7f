-- `preflags::pre_question` meets its contract.
use native.Mathlib.Omega.{arith}
use Rattle.std.proofs.lemmas.Grind.{common_steps}
use Rattle.preflags.proofs.pre_question.Goals as goal

pub returns-then-p-eq0 : goal.returns-then-p-eq0
returns-then-p-eq0 c = let h = c.clear-position.ensures c.right_click-o.new.shown in grind (arith, common_steps)
