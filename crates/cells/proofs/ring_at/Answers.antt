-- `cells::ring_at` meets its contract: the third row of nine is two rows lower.
use native.Mathlib.Omega.{arith}
use mathlib.Core.Path.{ap}
use Prim.Native.Nat.{ℕ, ◌+◌, ◌*◌, ◌/◌, ◌%◌}
use Rattle.cells.proofs.Grid.{ninth_le, third_le}
use Rattle.cells.proofs.ring_at.Goals as goal

pub overflow_mul-result : goal.overflow_mul-result
overflow_mul-result c = let n = ninth_le c.args.k in let m = third_le c.args.columns c.ninth_of-j.result (omega arith) in omega arith

pub overflow_add-result : goal.overflow_add-result
overflow_add-result c = let n = ninth_le c.args.k in let m = third_le c.args.columns c.ninth_of-j.result (omega arith) in omega arith

pub overflow_add-result-2 : goal.overflow_add-result-2
overflow_add-result-2 c = let n = ninth_le c.args.k in let m = third_le c.args.columns c.ninth_of-j.result (omega arith) in omega arith

pub returns : goal.returns
returns c = ap (λ (j : ℕ). c.args.first + j / 3 * c.args.columns + j % 3) c.ninth_of-j.ensures
