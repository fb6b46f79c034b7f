-- `buttons::play_lr` meets its contract.
use native.Mathlib.Omega.{arith}
use Rattle.std.proofs.lemmas.Grind.{common_steps}
use Rattle.rules.specs.Step.{play_lr}
use Rattle.rules.specs.Mouse.{moved}
use Rattle.buttons.proofs.play_lr.Goals as goal

pub returns-then-eq : goal.returns-then-eq
unfolding play_lr moved
returns-then-eq c = let h = c.left_at.ensures c.args.bits.now in grind (arith, common_steps)
