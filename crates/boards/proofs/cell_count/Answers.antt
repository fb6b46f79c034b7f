-- `boards::cell_count` meets its contract: a product of two bytes fits. Assumes nothing.
use native.Mathlib.Omega.{arith}
use Rattle.cells.proofs.Words.{bytes_product, product_same}
use Rattle.boards.proofs.cell_count.Goals as goal

pub overflow_mul-result : goal.overflow_mul-result
overflow_mul-result c = record { fits = omega (arith, bytes_product c.from.result c.from-2.result (omega arith) (omega arith)) }

pub returns : goal.returns
returns c = (
  product_same c.from.ensures c.from-2.ensures,
  omega
      (arith, bytes_product c.from.result c.from-2.result (omega arith) (omega arith)),
)
