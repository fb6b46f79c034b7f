-- `left_at`: the pointer is a cell of the board, or off it.
use native.Mathlib.Omega.{arith}
use Rattle.std.proofs.lemmas.Grind.{common_steps}
use Rattle.rules.specs.Step.{left_at}
use Rattle.buttons.proofs.left_at.Goals as goal

pub returns-in-Cell : goal.returns-in-Cell
unfolding left_at
returns-in-Cell c = λ bits. let h = c.left_click.ensures bits in grind (arith, common_steps)
