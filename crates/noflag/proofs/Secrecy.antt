-- Demand 3 over the class, from `secrecy`'s law that every step is quiet: a forbidden event is answered without the board, and clean desks ask no
-- agreement at flags. Assumes nothing.
use mathlib.Core.Path.{◌≡◌, refl, sym, ap, ◌∙◌, subst}
use mathlib.Core.Bool.{Bool, true, false}
use mathlib.Core.List.{List, [], ◌∷◌}
use Prim.Native.Nat.{ℕ}
use lib.Dec.{ltb}
use lib.IntN.{ℤ}
use Rattle.rules.specs.declared.Settings.{Settings}
use Rattle.rules.specs.Clicks.{Desk, Play, done}
use Rattle.rules.specs.Step.{pointer_of, step_on}
use Rattle.rules.specs.Calls.{fresh_desk}
use Rattle.secrecy.specs.Demand.{seen_of, end_of, Twins}
use Rattle.secrecy.proofs.Quiet.{over, a_play, lost_in, Quiet, alike}
use Rattle.secrecy.proofs.Hands.{idle}
use Rattle.secrecy.proofs.Events.{step_quiet}
use Rattle.secrecy.proofs.Rows.{Move, row_of, row_secrecy}
use Rattle.rules.specs.Noflag.{forbidden, class_step_on}
use Rattle.noflag.specs.Class.{forbids, class_on, class_game, Clean}
use Rattle.noflag.specs.Demand.{ClassTwins, ClassDemand}
use Rattle.noflag.proofs.Same.{class_same, class_forbids}
use Rattle.noflag.proofs.Clean.{end_clean}

pub class_quiet : (code r c : ℕ) (s : Desk) → Quiet a_play (lost_in s) s.shown (λ B h. class_step_on B code r c (over s h))
class_quiet code r c s = go (forbidden code) refl
  where
    go : (b : Bool) → forbidden code ≡ b → Quiet a_play (lost_in s) s.shown (λ B h. class_step_on B code r c (over s h))
    go false e =
        alike a_play (lost_in s) s.shown (λ B h. step_on B code r c (over s h)) (λ B h. class_step_on B code r c (over s h))
        (λ B h. sym (class_same B code r c (over s h) e)) (step_quiet code r c s)
    go true e =
        let n : ℕ = forbids (ltb s.position.events 65535) (pointer_of s.position.settings r c) in
        alike a_play (lost_in s) s.shown (λ B h. done n (over s h)) (λ B h. class_step_on B code r c (over s h))
        (λ B h. sym (class_forbids B code r c (over s h) e)) (idle (lost_in s) n s refl)

-- an event of the class as a move
abbrev pub class_event : ℕ → ℕ → ℕ → Move
class_event code r c = record { play = λ B. class_step_on B code r c; quiet = class_quiet code r c }

moves : List ℕ → List Move
moves [] = []
moves (code ∷ []) = []
moves (code ∷ r ∷ []) = []
moves (code ∷ r ∷ c ∷ es) = class_event code r c ∷ moves es

on_row : (B : List ℤ) (es : List ℕ) (d : Desk) → class_on B es d ≡ row_of B (moves es) d
unfolding class_on row_of moves
on_row B [] d = refl
on_row B (code ∷ []) d = refl
on_row B (code ∷ r ∷ []) d = refl
on_row B (code ∷ r ∷ c ∷ es) d = let o = class_step_on B code r c d in ap (λ (l : List Play). o ∷ l) (on_row B es o.desk)

-- where no cell shows 11 or 14, the class's twins are twins
pub clean_twins : {s : Settings} {d : Desk} {A B : List ℤ} → Clean d → ClassTwins s d.shown A B → Twins s d.shown A B
clean_twins c tw = record {
  first = tw.first;
  second = tw.second;
  mines = tw.mines;
  opens = tw.opens;
  wrong = λ i l q. absurd (c.no_wrong i q);
  hits = tw.hits;
  flags = λ k l h i m q. absurd (c.no_flag i q);
}

-- THEOREM: class-secrecy
pub class_secrecy : ClassDemand
class_secrecy s events A B m tw =
    let twins : Twins s (end_of s A (class_game s events A)) A B = clean_twins (end_clean s A events tw.first m) tw in
    ap (seen_of s) (on_row A events (fresh_desk s A))
    ∙ (row_secrecy (moves events) s A B (subst (λ (os : List Play). Twins s (end_of s A os) A B) (on_row A events (fresh_desk s A)) twins)
    ∙ sym (ap (seen_of s) (on_row B events (fresh_desk s B))))
