-- `cells::size_ok` meets its contract.
use native.Mathlib.Omega.{arith}
use mathlib.Core.Path.{ap₂}
use mathlib.Core.Bool.{◌&&◌}
use Prim.Native.Nat.{ℕ, ◌*◌}
use lib.Dec.{leb}
use Rattle.rules.specs.Grid.{size_ok}
use Rattle.cells.proofs.Words.{bytes_product}
use Rattle.cells.proofs.size_ok.Goals as goal

pub overflow_mul-cells : goal.overflow_mul-cells
overflow_mul-cells c = record { fits = omega (arith, bytes_product c.from.result c.from-2.result (omega arith) (omega arith)) }

pub returns : goal.returns
unfolding size_ok
returns c = ap₂ (λ (r k : ℕ). leb 1 c.args.rows && (leb c.args.rows 64 && (leb 1 c.args.columns && (leb c.args.columns 64 && leb (r * k) 2048)))) c.from.ensures c.from-2.ensures
