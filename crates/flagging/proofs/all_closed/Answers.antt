-- `flagging::all_closed` meets its contract: the remainder is tested at negative, zero and positive.
use mathlib.Core.Path.{◌∙◌, sym, ap, subst⁻¹}
use Prim.Native.Nat.{◌<◌}
use lib.IntN.{ℤ}
use lib.Signed.{mag}
use Rattle.rules.specs.Passes.{all_closed_of}
use Rattle.flagging.proofs.Signed.{small, at_negative, at_zero, at_positive, as_byte}
use Rattle.flagging.proofs.all_closed.Goals as goal

pub returns-then-rest-lt0 : goal.returns-then-rest-lt0
returns-then-rest-lt0 c = let m : mag c.remainder-rest.result < 128 = subst⁻¹ (λ (z : ℤ). mag z < 128) c.remainder-rest.ensures (small _ _ c.requires.0 c.requires.1) in
    sym (at_negative _ _ m c.if-rest-lt0.true) ∙ ap (λ (z : ℤ). all_closed_of z c.args.closed) c.remainder-rest.ensures

pub returns-then-rest-eq0 : goal.returns-then-rest-eq0
returns-then-rest-eq0 c = sym (at_zero _ _ c.if-rest-eq0.true) ∙ ap (λ (z : ℤ). all_closed_of z c.args.closed) c.remainder-rest.ensures

pub overflow_cast-result : goal.overflow_cast-result
overflow_cast-result c = let m : mag c.remainder-rest.result < 128 = subst⁻¹ (λ (z : ℤ). mag z < 128) c.remainder-rest.ensures (small _ _ c.requires.0 c.requires.1) in
    as_byte c.remainder-rest.result 0 m c.if-rest-lt0.false

pub returns : goal.returns
returns c = let m : mag c.remainder-rest.result < 128 = subst⁻¹ (λ (z : ℤ). mag z < 128) c.remainder-rest.ensures (small _ _ c.requires.0 c.requires.1) in
    at_positive _ _ m c.if-rest-lt0.false c.if-rest-eq0.false ∙ ap (λ (z : ℤ). all_closed_of z c.args.closed) c.remainder-rest.ensures
