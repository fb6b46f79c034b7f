use mathlib.Core.Path.{◌∙◌}
use native.Mathlib.Omega.{arith}
use Rattle.book.proofs.Accepting.{sections_fit}
use Rattle.claims.proofs.Judging.{claimed_refused, claimed_read}
use Rattle.claims.proofs.read_claimed.Goals as goal

-- src/lib.rt:43:9
pub returns-then-b-ne0 : goal.returns-then-b-ne0
returns-then-b-ne0 c = claimed_refused _ _ c.read_sections-b.ensures c.if-b-ne0.true

-- src/lib.rt:45:28
pub overflow_mul-at : goal.overflow_mul-at
overflow_mul-at c = record { fits = omega (arith, sections_fit _ _ c.read_sections-b.ensures) }

-- src/lib.rt:45:14
pub overflow_add-at : goal.overflow_add-at
overflow_add-at c = record { fits = omega (arith, sections_fit _ _ c.read_sections-b.ensures) }

-- src/lib.rt:46:5
pub read_claims-requires : goal.read_claims-requires
read_claims-requires c = sections_fit _ _ c.read_sections-b.ensures

-- src/lib.rt:38:1
pub returns : goal.returns
returns c = c.read_claims.ensures ∙ claimed_read _ _ c.read_sections-b.ensures c.if-b-ne0.false
