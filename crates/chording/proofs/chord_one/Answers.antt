-- `chording::chord_one` meets its contract: not Playing, a chord that answers 0, or one that opened.
use mathlib.Core.Path.{refl, sym}
use Rattle.chording.proofs.Playing.{is_over, is_on}
use Rattle.chording.proofs.Chording.{one_over, one_none, one_some}
use Rattle.chording.proofs.chord_one.Goals as goal

pub returns-then-ne : goal.returns-then-ne
returns-then-ne c = λ bits. record { outcome = sym (one_over _ _ _ (is_over _ _ c.ne.ensures c.if-ne.true)); same = refl }

pub returns-then-o-eq0 : goal.returns-then-o-eq0
returns-then-o-eq0 c = one_none _ c.requires.laid_at.fits.mined.valued _ _ _ _ _ _ _ c.requires.laid_at.fits.board c.perform_chord-o.ensures c.if-o-eq0.true

pub returns : goal.returns
returns c = one_some _ c.requires.laid_at.fits.mined.valued _ _ _ _ _ _ _ c.requires.laid_at.fits.board c.perform_chord-o.ensures (is_on _ _ c.ne.ensures c.if-ne.false) c.if-o-eq0.false _ c.opened.ensures
