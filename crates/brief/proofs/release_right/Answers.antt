-- `brief::release_right` meets its contract.
use mathlib.Core.Path.{◌∙◌, sym, refl}
use Rattle.brief.proofs.Ways.{rr_turns}
use Rattle.brief.proofs.release_right.Goals as goal

pub returns : goal.returns
returns c = λ B row column shown bits. rr_turns B row column c.args.p _ shown bits _ refl (sym c.both_down.ensures ∙ c.if-both_down.false) c.moves.ensures
