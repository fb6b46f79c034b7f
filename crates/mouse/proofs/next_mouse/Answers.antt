-- `mouse::next_mouse` meets its contract.
use mathlib.Core.Path.{ap}
use Prim.Native.Nat.{ℕ}
use Rattle.rules.specs.Mouse.{next_mouse, mouse_table}
use Rattle.mouse.proofs.next_mouse.Goals as goal

pub returns : goal.returns
unfolding next_mouse mouse_table
returns c = ap (λ (m : ℕ). next_mouse c.args.e m) c.from.ensures
