-- `passes::passes_after_chord` meets its contract: at each return the tests say which pass followed.
use mathlib.Core.Path.{sym}
use Rattle.cells.proofs.Contracts.{leaves_by, leaves_here}
use Rattle.chording.proofs.Playing.{is_over, is_on}
use Rattle.passes.proofs.After.{is_both, is_chord, neither, chord_over, chord_both, chord_alone, chord_none, leaves_scan}
use Rattle.passes.proofs.passes_after_chord.Goals as goal

pub returns-then-ne : goal.returns-then-ne
returns-then-ne c = leaves_here (sym (chord_over _ _ (is_over _ _ c.ne.ensures c.if-ne.true)))

pub returns-in-13 : goal.returns-in-13
returns-in-13 c = leaves_by c.both_pass.ensures (chord_both _ _ (is_on _ _ c.ne.ensures c.if-ne.false) (is_both _ c.in-13.is))

pub returns-in-11 : goal.returns-in-11
returns-in-11 c =
    let m = is_chord _ c.in-11.is in
    leaves_scan _ _ _ _ _ _ _ _ _ c.chord_pass.ensures (chord_alone _ _ (is_on _ _ c.ne.ensures c.if-ne.false) m.0 m.1)

pub returns-in_default : goal.returns-in_default
returns-in_default c =
    let not = c.in_default.in_default-own.rest in
    leaves_here (sym (chord_none _ _ (is_on _ _ c.ne.ensures c.if-ne.false) (neither _ 13 16 not.0.1) (neither _ 11 14 not.1)))
