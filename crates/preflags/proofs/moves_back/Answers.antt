-- `preflags::moves_back` meets its contract.
use native.Mathlib.Omega.{arith}
use Rattle.std.proofs.lemmas.Grind.{common_steps}
use Rattle.rules.specs.Mouse.{moved}
use Rattle.preflags.proofs.moves_back.Goals as goal

pub returns-then-back_to_ready : goal.returns-then-back_to_ready
unfolding moved
returns-then-back_to_ready c = λ shown bits. let h = c.back_to_ready.ensures shown bits in grind (arith, common_steps)

pub returns : goal.returns
unfolding moved
returns c = λ shown bits. let h = c.back_to_ready.ensures shown bits in grind (arith, common_steps)
