-- `bits::test_bit` meets its contract: a mask of one bit is a remainder. Assumes nothing.
use mathlib.Core.Path.{ap}
use Prim.Native.Nat.{ℕ, ◌/◌, ◌%◌, ◌^◌}
use lib.Dec.{eqb}
use lib.Bits.{and_mask}
use lib.ListN.{get_or}
use Rattle.rules.specs.Lent.{bit_at}
use Rattle.bits.proofs.test_bit.Goals as goal

pub returns : goal.returns
unfolding bit_at
returns c = ap (λ (x : ℕ). eqb x 1)
    (and_mask (get_or c.args.bits.now (c.args.n / 8) 0 / 2 ^ (c.args.n % 8)) 1)
