-- `heads::is_marked` meets its contract: by the length of the bytes.
use mathlib.Core.Path.{sym}
use Rattle.heads.proofs.Heads.{marked_short, marked_two, marked_more}
use Rattle.heads.proofs.is_marked.Goals as goal

pub returns-then-s-lt2 : goal.returns-then-s-lt2
returns-then-s-lt2 c = sym (marked_short _ c.if-s-lt2.true)

pub returns-then-s-eq2 : goal.returns-then-s-eq2
returns-then-s-eq2 c = sym (marked_two _ c.if-s-eq2.true)

pub returns : goal.returns
returns c = sym (marked_more _ c.if-s-lt2.false c.if-s-eq2.false c.is_gap-third.ensures)
