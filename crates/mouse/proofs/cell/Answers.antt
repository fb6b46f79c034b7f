-- `mouse::cell` meets its contract.
use native.Mathlib.Omega.{arith}
use borrow.Author.Rules.{rules}
use Rattle.cells.proofs.Words.{bytes_product}
use Rattle.mouse.proofs.cell.Goals as goal

pub overflow_mul-result : goal.overflow_mul-result
overflow_mul-result c = record { fits = let b = bytes_product c.from.result c.from-2.result (search rules) (search rules) in omega arith }

pub overflow_add-result : goal.overflow_add-result
overflow_add-result c = record { fits = let b = bytes_product c.from.result c.from-2.result (search rules) (search rules) in omega arith }
