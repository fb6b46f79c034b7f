-- An accepted event is counted in the position, and a refused one leaves all as it was: so the number of a refused one is that of the events counted, and one.
use Rattle.std.specs.Prelude.{Option, Some, None}
use mathlib.Core.Path.{◌≡◌, ◌∙◌, ap, sym, refl}
use mathlib.Core.Bool.{Bool, true, false, true≢false}
use mathlib.Core.List.{List, [], ◌∷◌}
use Prim.Native.Nat.{ℕ, ◌+◌, ◌<◌, ◌≤◌}
use native.Mathlib.Omega.{arith}
use borrow.Author.Tests.{eq-eqb, leb-false}
use lib.Dec.{eqb, leb}
use lib.ListN.{length}
use lib.IntN.{ℤ}
use Rattle.rules.specs.declared.Pointer.{Pointer}
use Rattle.rules.specs.Words.{pick}
use Rattle.rules.specs.Clicks.{Desk, Play, done}
use Rattle.rules.specs.Step.{pointer_of, plain_of, refusal_at, play_at, step_at, step_by_of, step_on}
use Rattle.rules.specs.Calls.{plays, last_play}
use Rattle.game.proofs.Answers.{play_answers, refusal_refuses, refused_from}

-- a play at a desk: accepted and counted, or refused with the desk as it was
pub record Counted (d : Desk) (o : Play) : Type 0 where
  pub counted : o.answer < 20 → o.desk.position.events ≡ d.position.events + 1
  pub kept : 20 ≤ o.answer → o.desk ≡ d

at_counted : (B : List ℤ) (code : ℕ) (x : Pointer) (d : Desk) → Counted d (step_at B code x d)
unfolding step_at refusal_at play_at
at_counted B code x d = go (eqb (refusal_at code x d) 0) refl
  where
    go : (t : Bool) → eqb (refusal_at code x d) 0 ≡ t → Counted d (pick t (play_at B code x d) (done (refusal_at code x d) d))
    go true e = record { counted = λ h. refl; kept = λ h. let a = (play_answers B code x d).small in absurd (omega arith) }
    go false e =
        let some : refusal_at code x d ≡ 0 → ⊥ = λ z. true≢false (sym (eq-eqb _ _ z) ∙ e) in
        let least = refused_from (refusal_at code x d) (refusal_refuses (plain_of code x d) d) some in
        record { counted = λ h. absurd (omega arith); kept = λ h. refl }

by_counted : (B : List ℤ) (code : ℕ) (w : Option Pointer) (d : Desk) → Counted d (step_by_of B code w d)
unfolding step_by_of
by_counted B code (Some x) d = at_counted B code x d
by_counted B code None d = record { counted = λ h. absurd (omega arith); kept = λ h. refl }

pub step_counted : (B : List ℤ) (code r c : ℕ) (d : Desk) → Counted d (step_on B code r c d)
unfolding step_on
step_counted B code r c d = by_counted B code (pointer_of d.position.settings r c) d

-- a row of events that ends with a refused one
pub plays_counted : (B : List ℤ) (events : List ℕ) (o : Play) → o.answer < 20 → 20 ≤ (last_play o (plays B events o.desk)).answer
    → (last_play o (plays B events o.desk)).desk.position.events + 1 ≡ o.desk.position.events + length (plays B events o.desk)
unfolding plays last_play
plays_counted B [] o small big = absurd (omega arith)
plays_counted B (code ∷ []) o small big = absurd (omega arith)
plays_counted B (code ∷ r ∷ []) o small big = absurd (omega arith)
plays_counted B (code ∷ r ∷ c ∷ es) o small big =
    go (leb 20 (step_on B code r c o.desk).answer) refl (plays_counted B es (step_on B code r c o.desk)) big
  where
    x : Play
    x = step_on B code r c o.desk

    row : Bool → List Play
    row t = x ∷ pick t [] (plays B es x.desk)

    go : (t : Bool) → leb 20 x.answer ≡ t
        → (x.answer < 20 → 20 ≤ (last_play x (plays B es x.desk)).answer
        → (last_play x (plays B es x.desk)).desk.position.events + 1 ≡ x.desk.position.events + length (plays B es x.desk))
        → 20 ≤ (last_play o (row t)).answer → (last_play o (row t)).desk.position.events + 1 ≡ o.desk.position.events + length (row t)
    go true e rest h = ap (λ (d : Desk). d.position.events + 1) ((step_counted B code r c o.desk).kept h)
    go false e rest h =
        let less = leb-false 20 x.answer e in
        let one = (step_counted B code r c o.desk).counted less in
        let more = rest less h in
        omega arith
