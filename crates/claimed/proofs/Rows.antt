-- A row of events by its plays: all are accepted where the last play is, and else the last play is of the first refused one.
use mathlib.Core.Path.{◌≡◌, refl, sym, ap, ◌∙◌, subst}
use mathlib.Core.Bool.{Bool, true, false}
use mathlib.Core.List.{List, [], ◌∷◌}
use Prim.Native.Nat.{ℕ, suc, ◌+◌, ◌%◌, ◌<◌, ◌≤◌}
use native.Mathlib.Omega.{arith}
use borrow.Author.Tests.{leb-true, leb-false, lt-leb, le-leb}
use lib.Dec.{leb}
use lib.ListN.{length}
use lib.IntN.{ℤ}
use Rattle.rules.specs.Words.{pick}
use Rattle.rules.specs.Clicks.{Desk, Play}
use Rattle.rules.specs.Step.{step_on}
use Rattle.rules.specs.Calls.{plays, last_play}
use Rattle.claimed.specs.Vouched.{AllAccepted, none, next, FirstRefused, here, later}

module _ (B : List ℤ) where
  -- the last play is accepted
  pub row_accepted : (events : List ℕ) (o : Play) → length events % 3 ≡ 0 → (last_play o (plays B events o.desk)).answer < 20 → AllAccepted B events o.desk
  unfolding plays last_play
  row_accepted [] o w h = none
  row_accepted (code ∷ []) o w h = absurd (omega arith)
  row_accepted (code ∷ r ∷ []) o w h = absurd (omega arith)
  row_accepted (code ∷ r ∷ c ∷ es) o w h =
      go (leb 20 (step_on B code r c o.desk).answer) refl h (row_accepted es (step_on B code r c o.desk) (omega arith))
    where
      x : Play
      x = step_on B code r c o.desk

      go : (t : Bool) → leb 20 x.answer ≡ t → (last_play o (x ∷ pick t [] (plays B es x.desk))).answer < 20
          → ((last_play x (plays B es x.desk)).answer < 20 → AllAccepted B es x.desk) → AllAccepted B (code ∷ r ∷ c ∷ es) o.desk
      go true e k rest = let b = leb-true 20 x.answer e in absurd (omega arith)
      go false e k rest = next (leb-false 20 x.answer e) (rest k)

  -- and where all are accepted it is
  pub accepted_row : {events : List ℕ} {d : Desk} → AllAccepted B events d → (o : Play) → o.desk ≡ d → o.answer < 20
      → (last_play o (plays B events d)).answer < 20
  unfolding plays last_play
  accepted_row none o e h = h
  accepted_row {d = d} (next {code} {r} {c} {es} a rest) o e h =
      subst (λ (t : Bool). (last_play o (step_on B code r c d ∷ pick t [] (plays B es (step_on B code r c d).desk))).answer < 20)
      (sym (lt-leb 20 (step_on B code r c d).answer a))
      (accepted_row rest (step_on B code r c d) refl a)

  -- the last play is refused: it is that of the first refused event, whose number is how many were played
  pub row_refused : (events : List ℕ) (o : Play) → o.answer < 20 → 20 ≤ (last_play o (plays B events o.desk)).answer
      → FirstRefused B events o.desk (length (plays B events o.desk))
  unfolding plays last_play
  row_refused [] o s h = absurd (omega arith)
  row_refused (code ∷ []) o s h = absurd (omega arith)
  row_refused (code ∷ r ∷ []) o s h = absurd (omega arith)
  row_refused (code ∷ r ∷ c ∷ es) o s h =
      go (leb 20 (step_on B code r c o.desk).answer) refl h (row_refused es (step_on B code r c o.desk))
    where
      x : Play
      x = step_on B code r c o.desk

      go : (t : Bool) → leb 20 x.answer ≡ t → 20 ≤ (last_play o (x ∷ pick t [] (plays B es x.desk))).answer
          → (x.answer < 20 → 20 ≤ (last_play x (plays B es x.desk)).answer → FirstRefused B es x.desk (length (plays B es x.desk)))
          → FirstRefused B (code ∷ r ∷ c ∷ es) o.desk (length (x ∷ pick t [] (plays B es x.desk)))
      go true e k rest = here (leb-true 20 x.answer e)
      go false e k rest = later (leb-false 20 x.answer e) (rest (leb-false 20 x.answer e) k)
