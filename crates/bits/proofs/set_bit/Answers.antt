-- `bits::set_bit` meets its contract: the shifted one stays within the byte. Assumes nothing.
use native.Mathlib.Omega.{arith}
use native.Mathlib.Nat.{one-mul}
use mathlib.Core.Path.{◌∙◌, ap}
use Prim.Native.Nat.{ℕ, ◌/◌, ◌%◌, ◌^◌}
use lib.Bits.{bit_or}
use lib.Pow.{shl_exact}
use lib.ListN.{get_or, set}
use Rattle.rules.specs.Lent.{with_bit}
use lib.Dec.{lit<}
use Rattle.bits.proofs.set_bit.Goals as goal

pub returns : goal.returns
unfolding with_bit
returns c = let n : ℕ = c.args.n in
    ap (λ (x : ℕ). set c.args.bits.now (n / 8) (bit_or (get_or c.args.bits.now (n / 8) 0) x))
    (shl_exact {a = 1} 1 (n % 8) 8 (lit< tt) (omega arith) ∙ one-mul (2 ^ (n % 8)))
