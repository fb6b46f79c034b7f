-- `calls::set_up` meets its contract.
use mathlib.Core.Path.{ap}
use Rattle.rules.specs.Refusals.{found_number}
use Rattle.calls.proofs.Making.{set_refused, set_fresh}
use Rattle.cells.proofs.Refused.{never_0}
use Rattle.calls.proofs.set_up.Goals as goal

pub refuse_by-requires : goal.refuse_by-requires
refuse_by-requires c = rw c.in-Err.is at c.requires.placeable

pub returns-in-Err : goal.returns-in-Err
returns-in-Err c = rw c.in-Err.is (set_refused _ _ _ _ _ _ _ c.refuse_by.ensures (never_0 _))

pub fresh_desk-p-requires : goal.fresh_desk-p-requires
fresh_desk-p-requires c = let whole = c.requires.mined (ap found_number c.in_default.is) in record { mined = whole.0; shown_len = whole.1.0; bits_len = whole.1.1 }

pub returns : goal.returns
returns c = set_fresh _ _ _ _ _ _ _ _ _ _ c.answer.ensures (ap found_number c.in_default.is) c.fresh_desk-p.ensures
