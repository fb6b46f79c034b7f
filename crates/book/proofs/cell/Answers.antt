-- `book::cell` meets its contract: the product of two bytes, and one byte more, fit.
use native.Mathlib.Omega.{arith}
use Rattle.cells.proofs.Words.{bytes_product}
use Rattle.book.proofs.cell.Goals as goal

pub overflow_mul-result : goal.overflow_mul-result
overflow_mul-result c = record { fits = omega (arith, bytes_product c.from.result c.from-2.result (omega arith) (omega arith)) }

pub overflow_add-result : goal.overflow_add-result
overflow_add-result c = record { fits = omega (arith, bytes_product c.from.result c.from-2.result (omega arith) (omega arith)) }

pub returns : goal.returns
returns c = (simp (c.from.ensures, c.from-2.ensures, c.from-3.ensures), omega (arith, bytes_product c.from.result c.from-2.result (omega arith) (omega arith)))
