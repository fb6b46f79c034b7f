-- The three calls by their contracts: each has one outcome, a refused question gives the score back, and so does a report of 0.
use mathlib.Core.Path.{◌≡◌, ◌∙◌, refl, sym, ap}
use mathlib.Core.Bool.{Bool, true, false}
use mathlib.Core.List.{List}
use Prim.Native.Nat.{ℕ, ◌*◌}
use borrow.Author.Tests.{eqb-true}
use lib.Dec.{ltb, eqb}
use Rattle.rules.specs.Words.{pick}
use Rattle.rules.specs.Picture.{shown_refusal}
use Rattle.cells.proofs.Words.{one}
use Rattle.rules.specs.declared.Hint.{Hint}
use Rattle.rules.specs.declared.Hint.TheVariants.{Cell, Nothing, Refused}
use Rattle.rules.specs.declared.Score.{Score}
use Rattle.rules.specs.declared.Advice.{Advice}
use Rattle.rules.specs.Trainer.{offered_cell, hint_at, hint_by, hint_of, hint_number, after_hint, HintIs, AskIs, ReportIs}
use Rattle.trainer.proofs.Scoring.{report_none}

-- ---- one outcome -------------------------------------------------------------------------------------------------------------------------

pub hint_one : (R C : ℕ) (shown : List ℕ) {r r' : Hint} → HintIs R C shown r → HintIs R C shown r' → r ≡ r'
hint_one R C shown h h' = one h h'

pub ask_one : (s : Score) (R C : ℕ) (shown : List ℕ) {r r' : Advice} → AskIs s R C shown r → AskIs s R C shown r' → r ≡ r'
ask_one s R C shown h h' = one h h'

pub report_one : (s : Score) (row column opened : ℕ) {r r' : Score} → ReportIs s row column opened r → ReportIs s row column opened r' → r ≡ r'
report_one s row column opened h h' = one h h'

-- ---- refusals ----------------------------------------------------------------------------------------------------------------------------

offer_number : (b : Bool) (R C : ℕ) (shown : List ℕ) → hint_number (pick b (hint_at R C shown (offered_cell R C shown)) Nothing) ≡ 0
offer_number true R C shown = refl
offer_number false R C shown = refl

by_number : (n R C : ℕ) (shown : List ℕ) → hint_number (hint_by n R C shown) ≡ n
unfolding hint_by
by_number n R C shown = go (eqb n 0) refl
  where
    go : (b : Bool) → eqb n 0 ≡ b → hint_number (pick b (pick (ltb (offered_cell R C shown) (R * C)) (hint_at R C shown (offered_cell R C shown)) Nothing) (Refused n)) ≡ n
    go true e = offer_number (ltb (offered_cell R C shown) (R * C)) R C shown ∙ sym (eqb-true n 0 e)
    go false e = refl

-- a hint's number is 20, 21, 261 or 0, as the shown board by itself is refused
pub hint_number_lem : (R C : ℕ) (shown : List ℕ) {r : Hint} → HintIs R C shown r → hint_number r ≡ shown_refusal R C shown true
unfolding hint_of
hint_number_lem R C shown h = ap hint_number h ∙ by_number (shown_refusal R C shown true) R C shown

refused_keeps : (h : Hint) (s : Score) → (hint_number h ≡ 0 → ⊥) → after_hint h s ≡ s
refused_keeps (Cell row column byRow byColumn) s n = absurd (n refl)
refused_keeps Nothing s n = absurd (n refl)
refused_keeps (Refused m) s n = refl

-- a refused question gives the score back
pub ask_gives_back : (s : Score) (R C : ℕ) (shown : List ℕ) {r : Advice} → AskIs s R C shown r → (hint_number r.hint ≡ 0 → ⊥) → r.score ≡ s
ask_gives_back s R C shown h n =
    ap (λ (a : Advice). a.score) h ∙ refused_keeps (hint_of R C shown) s (λ z. n (ap (λ (a : Advice). hint_number a.hint) h ∙ z))

-- the hint of a question is the hint by itself
pub ask_hints : (s : Score) (R C : ℕ) (shown : List ℕ) {r : Advice} → AskIs s R C shown r → HintIs R C shown r.hint
ask_hints s R C shown h = ap (λ (a : Advice). a.hint) h

-- a report of 0 gives the score back
pub report_gives_back : (s : Score) (row column : ℕ) {r : Score} → ReportIs s row column 0 r → r ≡ s
report_gives_back s row column h = h ∙ sym (report_none s row column 0 refl)
