-- `mouse::moved` meets its contract.
use Prim.Native.Nat.{ℕ, ◌<◌}
use mathlib.Core.Path.{subst⁻¹}
use Rattle.rules.specs.Mouse.{moved}
use Rattle.mouse.proofs.Bytes.{mouse_small}
use Rattle.mouse.proofs.moved.Goals as goal

pub next_mouse-n-requires : goal.next_mouse-n-requires
next_mouse-n-requires c = (c.code.ensures.1, subst⁻¹ (λ (n : ℕ). n < 7) c.from.ensures (mouse_small c.args.p.mouse))

pub returns : goal.returns
unfolding moved
returns c = simp (c.with_mouse.ensures, c.from-2.ensures, c.next_mouse-n.ensures, c.from.ensures, c.code.ensures.0)
