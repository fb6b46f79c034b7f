-- `scrub::drag_on` meets its contract.
use native.Mathlib.Omega.{arith}
use Rattle.scrub.proofs.Telling.{told_of}
use Rattle.scrub.proofs.drag_on.Goals as goal

pub tell-requires : goal.tell-requires
tell-requires g c = told_of c.args.s.now c.args.b c.requires.b_value.0 c.requires.b_value.1 _ _ _ _ _ _ _ _ c.drag_to-o.result _ _ _ _ _ c.drag_to-o.ensures (omega arith) _ (omega arith)
