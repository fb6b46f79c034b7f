-- `lawful::bit_lawful` meets its contract.
use borrow.Author.Tests.{not-true, not-false}
use Rattle.lawful.proofs.Tests.{bit_clear, bit_spare, bit_mine}
use mathlib.Core.Path.{ap}
use mathlib.Core.Bool.{not}
use Rattle.lawful.proofs.bit_lawful.Goals as goal

pub returns-then-not-set : goal.returns-then-not-set
returns-then-not-set c = bit_clear _ _ _ _ c.test_bit-set.ensures (not-true _ (ap not c.if-not-set.true))

pub returns-then-mines-n : goal.returns-then-mines-n
returns-then-mines-n c = bit_spare _ _ _ _ c.test_bit-set.ensures (not-false _ (ap not c.if-not-set.false)) c.if-mines-n.true

pub returns : goal.returns
returns c = bit_mine _ _ _ _ _ c.test_bit-set.ensures (not-false _ (ap not c.if-not-set.false)) c.face_at.ensures
