-- One equation for each way through a report, and a question put together.
use mathlib.Core.Path.{◌≡◌, ◌∙◌, sym, ap, ap₂}
use mathlib.Core.List.{List}
use mathlib.Core.Bool.{Bool, true, false}
use Prim.Native.Nat.{ℕ}
use borrow.Author.Tests.{eq-eqb, ne_eqb}
use Rattle.rules.specs.declared.Place.TheVariants.{Nowhere}
use Rattle.rules.specs.declared.Hint.{Hint}
use Rattle.rules.specs.declared.Score.{Score}
use Rattle.rules.specs.declared.Advice.{Advice}
use Rattle.rules.specs.Trainer.{hint_of, score, one_more_of, after_hint, ask_of, points_at, report_of}

module _ (s : Score) (row column opened : ℕ) where
  pub report_none : opened ≡ 0 → s ≡ report_of s row column opened
  unfolding report_of
  report_none h = simp (eq-eqb _ _ h)

  module _ (n : opened ≡ 0 → ⊥) {b : Bool} (d : b ≡ points_at s.hint row column) where
    pub report_follows : {f : ℕ} → b ≡ true → f ≡ one_more_of s.followed → score s.asked f Nowhere ≡ report_of s row column opened
    unfolding report_of
    report_follows t e = simp (ne_eqb _ _ n, sym d ∙ t, e)

    pub report_leaves : b ≡ false → score s.asked s.followed Nowhere ≡ report_of s row column opened
    unfolding report_of
    report_leaves t = simp (ne_eqb _ _ n, sym d ∙ t)

abbrev advice : Hint → Score → Advice
advice h t = record { hint = h; score = t }

pub asked_made : (s : Score) (R C : ℕ) (shown : List ℕ) {h : Hint} {t : Score} → h ≡ hint_of R C shown → t ≡ after_hint h s → advice h t ≡ ask_of s R C shown
asked_made s R C shown e d = ap₂ advice e (d ∙ ap (λ (x : Hint). after_hint x s) e)
