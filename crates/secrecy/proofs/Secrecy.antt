-- Demand 3, proved: every step is quiet, so a game is a row of quiet moves; a game that is stopped is one that goes on with fewer events.
-- Assumes nothing.
use mathlib.Core.Path.{◌≡◌, refl, sym, ap, ◌∙◌, subst}
use mathlib.Core.List.{List, [], ◌∷◌}
use mathlib.Core.Bool.{Bool, true, false}
use Prim.Native.Nat.{ℕ, suc, ◌*◌}
use native.Mathlib.Omega.{arith}
use lib.ListN.{length, take}
use lib.IntN.{ℤ}
use lib.Dec.{leb}
use Rattle.rules.specs.Words.{pick}
use Rattle.rules.specs.Clicks.{Desk, Play}
use Rattle.rules.specs.Step.{step_on}
use Rattle.rules.specs.Calls.{fresh_desk, plays}
use Rattle.secrecy.specs.Demand.{Seen, seen, seen_all, seen_of, plays_on, stopped, end_of, Twins, Demand, StoppedDemand}
use Rattle.secrecy.proofs.Events.{step_quiet}
use Rattle.secrecy.proofs.Rows.{Move, row_of, row_secrecy}

-- ---- a game that goes on -----------------------------------------------------------------------------------------------------------------

-- an event as a move
abbrev pub event : ℕ → ℕ → ℕ → Move
event code r c = record { play = λ B. step_on B code r c; quiet = step_quiet code r c }

moves : List ℕ → List Move
moves [] = []
moves (code ∷ []) = []
moves (code ∷ r ∷ []) = []
moves (code ∷ r ∷ c ∷ es) = event code r c ∷ moves es

on_row : (B : List ℤ) (es : List ℕ) (d : Desk) → plays_on B es d ≡ row_of B (moves es) d
unfolding plays_on row_of moves
on_row B [] d = refl
on_row B (code ∷ []) d = refl
on_row B (code ∷ r ∷ []) d = refl
on_row B (code ∷ r ∷ c ∷ es) d = let o = step_on B code r c d in ap (λ (l : List Play). o ∷ l) (on_row B es o.desk)

-- THE theorem
pub secrecy : Demand
secrecy s events A B tw =
    ap (seen_of s) (on_row A events (fresh_desk s A))
    ∙ (row_secrecy (moves events) s A B (subst (λ (os : List Play). Twins s (end_of s A os) A B) (on_row A events (fresh_desk s A)) tw)
    ∙ sym (ap (seen_of s) (on_row B events (fresh_desk s B))))

-- ---- a game that is stopped --------------------------------------------------------------------------------------------------------------

three_more : (n : ℕ) → 3 * suc n ≡ suc (suc (suc (3 * n)))
three_more n = omega arith

-- the plays up to the first refused one are those of the events up to there, in a game that goes on
pub plays_on_lem : (B : List ℤ) (es : List ℕ) (d : Desk) → plays B es d ≡ plays_on B (take (3 * length (plays B es d)) es) d
unfolding plays plays_on
plays_on_lem B [] d = refl
plays_on_lem B (code ∷ []) d = refl
plays_on_lem B (code ∷ r ∷ []) d = refl
plays_on_lem B (code ∷ r ∷ c ∷ es) d =
    let o = step_on B code r c d in
    rw (three_more (length (pick (leb 20 o.answer) [] (plays B es o.desk))))
    (ap (λ (l : List Play). o ∷ l) (go (leb 20 o.answer) o.desk (plays_on_lem B es o.desk)))
  where
    go : (b : Bool) (e : Desk) → plays B es e ≡ plays_on B (take (3 * length (plays B es e)) es) e
        → pick b [] (plays B es e) ≡ plays_on B (take (3 * length (pick b [] (plays B es e))) es) e
    go true e q = refl
    go false e q = q

-- what is seen of the first n events is the same
abbrev SameFor : List ℤ → List ℤ → List ℕ → Desk → Desk → ℕ → Type 0
SameFor A B es d e n = seen_all d.shown (plays_on A (take (3 * n) es) d) ≡ seen_all e.shown (plays_on B (take (3 * n) es) e)

-- a second game that looks the same up to the first one's refusal is refused there too
stops_alike : (A B : List ℤ) (es : List ℕ) (d e : Desk) → SameFor A B es d e (length (plays A es d))
    → seen_all d.shown (plays A es d) ≡ seen_all e.shown (plays B es e)
unfolding plays plays_on seen_all
stops_alike A B [] d e h = refl
stops_alike A B (code ∷ []) d e h = refl
stops_alike A B (code ∷ r ∷ []) d e h = refl
stops_alike A B (code ∷ r ∷ c ∷ es) d e h =
    let o = step_on A code r c d in
    let p = step_on B code r c e in
    let b = leb 20 o.answer in
    let n = length (pick b [] (plays A es o.desk)) in
    let all : seen d.shown o ∷ seen_all o.desk.shown (plays_on A (take (3 * n) es) o.desk)
    ≡ seen e.shown p ∷ seen_all p.desk.shown (plays_on B (take (3 * n) es) p.desk) = rw (three_more n) at h in
    let one : seen d.shown o ≡ seen e.shown p = cc in
    let rest : SameFor A B es o.desk p.desk n = cc in
    ap (λ (x : Seen). x ∷ seen_all o.desk.shown (pick b [] (plays A es o.desk))) one
    ∙ ap (λ (l : List Seen). seen e.shown p ∷ l)
    (go (SameFor A B es o.desk p.desk) b o.desk.shown p.desk.shown (plays A es o.desk) (plays B es p.desk)
    (stops_alike A B es o.desk p.desk) rest
    ∙ ap (λ (x : Seen). seen_all p.desk.shown (pick (leb 20 x.answer) [] (plays B es p.desk))) one)
  where
    go : (T : ℕ → Type 0) (b : Bool) (x y : List ℕ) (os ps : List Play) → (T (length os) → seen_all x os ≡ seen_all y ps) → T (length (pick b [] os))
        → seen_all x (pick b [] os) ≡ seen_all y (pick b [] ps)
    go T true x y os ps f h = refl
    go T false x y os ps f h = f h

-- the events up to the first game's refusal, played in games that go on
pub stopped_secrecy : StoppedDemand
stopped_secrecy s events A B tw =
    stops_alike A B events (fresh_desk s A) (fresh_desk s B)
    (secrecy s (take (3 * length (stopped s events A)) events) A B
    (subst (λ (os : List Play). Twins s (end_of s A os) A B) (plays_on_lem A events (fresh_desk s A)) tw))
