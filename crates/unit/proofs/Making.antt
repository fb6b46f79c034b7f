-- A call on a flat score: made on what its bytes mean, and its answer in bytes again.
use mathlib.Core.Path.{◌≡◌, ◌∙◌, ap}
use mathlib.Core.List.{List}
use Prim.Native.Nat.{ℕ}
use Rattle.rules.specs.declared.Score.{Score}
use Rattle.rules.specs.declared.Advice.{Advice}
use Rattle.rules.specs.Trainer.{ask_of, report_of}
use Rattle.unit.specs.declared.FlatScore.{FlatScore}
use Rattle.unit.specs.declared.FlatAdvice.{FlatAdvice}
use Rattle.unit.specs.Unit.{score_in, flat_score, flat_advice}

pub ask_flat : (f : FlatScore) (R C : ℕ) (shown : List ℕ) {s : Score} {a : Advice} {r : FlatAdvice}
    → s ≡ score_in f → a ≡ ask_of s R C shown → r ≡ flat_advice a → r ≡ flat_advice (ask_of (score_in f) R C shown)
ask_flat f R C shown e h g = g ∙ ap flat_advice (h ∙ ap (λ (x : Score). ask_of x R C shown) e)

pub report_flat : (f : FlatScore) (row column opened : ℕ) {s t : Score} {r : FlatScore}
    → s ≡ score_in f → t ≡ report_of s row column opened → r ≡ flat_score t → r ≡ flat_score (report_of (score_in f) row column opened)
report_flat f row column opened e h g = g ∙ ap flat_score (h ∙ ap (λ (x : Score). report_of x row column opened) e)
