-- The exported calls by their contracts: each has one outcome; a refused question and a report of 0 give every byte of the score back.
use mathlib.Core.Path.{◌≡◌, ◌∙◌, refl, ap}
use mathlib.Core.Bool.{true}
use mathlib.Core.List.{List}
use Prim.Native.Nat.{ℕ}
use Rattle.rules.specs.Picture.{shown_refusal}
use Rattle.cells.proofs.Words.{one}
use Rattle.rules.specs.declared.Hint.{Hint}
use Rattle.rules.specs.declared.Hint.TheVariants.{Cell, Nothing, Refused}
use Rattle.rules.specs.Trainer.{hint_of, hint_number, ask_of, report_of}
use Rattle.trainer.proofs.Outcomes.{hint_number_lem, ask_gives_back, report_gives_back}
use Rattle.unit.specs.declared.FlatScore.{FlatScore}
use Rattle.unit.specs.declared.FlatHint.{FlatHint}
use Rattle.unit.specs.declared.FlatAdvice.{FlatAdvice}
use Rattle.unit.specs.Unit.{score_in, flat_score, flat_hint, HintIs, AskIs, ReportIs}
use Rattle.unit.proofs.Bytes.{score_back}

pub hint_one : (R C : ℕ) (shown : List ℕ) {r r' : FlatHint} → HintIs R C shown r → HintIs R C shown r' → r ≡ r'
hint_one R C shown h h' = one h h'

pub ask_one : (f : FlatScore) (R C : ℕ) (shown : List ℕ) {r r' : FlatAdvice} → AskIs f R C shown r → AskIs f R C shown r' → r ≡ r'
ask_one f R C shown h h' = one h h'

pub report_one : (f : FlatScore) (row column opened : ℕ) {r r' : FlatScore} → ReportIs f row column opened r → ReportIs f row column opened r' → r ≡ r'
report_one f row column opened h h' = one h h'

flat_number : (h : Hint) → (flat_hint h).number ≡ hint_number h
flat_number (Cell row column byRow byColumn) = refl
flat_number Nothing = refl
flat_number (Refused n) = refl

-- the number is 20, 21, 261 or 0, as the shown board by itself is refused
pub lmt_hint_number : (R C : ℕ) (shown : List ℕ) {r : FlatHint} → HintIs R C shown r → r.number ≡ shown_refusal R C shown true
lmt_hint_number R C shown h = ap (λ (x : FlatHint). x.number) h ∙ flat_number (hint_of R C shown) ∙ hint_number_lem R C shown refl

pub lmt_ask_gives_back : (f : FlatScore) (R C : ℕ) (shown : List ℕ) {r : FlatAdvice} → AskIs f R C shown r → (r.hint.number ≡ 0 → ⊥) → r.score ≡ f
lmt_ask_gives_back f R C shown h n =
    ap (λ (a : FlatAdvice). a.score) h
    ∙ ap flat_score
    (ask_gives_back (score_in f) R C shown {r = ask_of (score_in f) R C shown} refl
    (λ z. n (ap (λ (a : FlatAdvice). a.hint.number) h ∙ flat_number (hint_of R C shown) ∙ z)))
    ∙ score_back f

pub lmt_report_gives_back : (f : FlatScore) (row column : ℕ) {r : FlatScore} → ReportIs f row column 0 r → r ≡ f
lmt_report_gives_back f row column h =
    h ∙ ap flat_score (report_gives_back (score_in f) row column {r = report_of (score_in f) row column 0} refl) ∙ score_back f
