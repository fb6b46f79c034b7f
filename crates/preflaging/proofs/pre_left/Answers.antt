-- `preflaging::pre_left` meets its contract.
use native.Mathlib.Omega.{arith}
use Rattle.std.proofs.lemmas.Grind.{common_steps}
use Rattle.rules.specs.Step.{pre_left}
use Rattle.preflaging.proofs.pre_left.Goals as goal

pub returns-then-seen_at-eq10 : goal.returns-then-seen_at-eq10
unfolding pre_left
returns-then-seen_at-eq10 c = let h = c.left_at.ensures c.args.bits.now in let s = c.seen_at.ensures c.args.bits.now in grind (arith, common_steps)

pub returns-then-p-eq0 : goal.returns-then-p-eq0
unfolding pre_left
returns-then-p-eq0 c = let h = c.clear.ensures c.args.shown.now in grind (arith, common_steps)
