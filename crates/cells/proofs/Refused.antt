-- No refusal has the number 0, which is for none.
use mathlib.Core.Path.{◌≡◌}
use native.Mathlib.Omega.{arith}
use Rattle.rules.specs.declared.Refusal.{Refusal}
use Rattle.rules.specs.Refusals.{refusal_number}

pub never_0 : (r : Refusal) → refusal_number r ≡ 0 → ⊥
never_0 r e = grind arith
