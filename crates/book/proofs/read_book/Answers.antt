-- `book::read_book` meets its contract: the sections, then the end; where the last event ends lies within the bytes.
use native.Mathlib.Omega.{arith}
use Rattle.book.proofs.Accepting.{sections_fit, sections_end}
use Rattle.book.proofs.read_book.Goals as goal

pub overflow_mul-end : goal.overflow_mul-end
overflow_mul-end c = record { fits = omega (arith, sections_fit _ _ c.read_sections-b.ensures) }

pub overflow_add-end : goal.overflow_add-end
overflow_add-end c = record { fits = omega (arith, sections_fit _ _ c.read_sections-b.ensures) }

pub returns : goal.returns
returns c = sections_end _ _ c.read_sections-b.ensures c.ended.ensures
