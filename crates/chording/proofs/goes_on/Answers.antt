-- `chording::goes_on` meets its contract.
use mathlib.Core.Path.{◌∙◌}
use Rattle.chording.proofs.Playing.{playing_is}
use Rattle.chording.proofs.goes_on.Goals as goal

pub returns-then-opened : goal.returns-then-opened
returns-then-opened c = simp c.if-opened.true (c.eq.ensures ∙ playing_is _)
