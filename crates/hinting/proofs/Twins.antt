-- hint-quiet: a hint and a report read nothing but what demand 3 says is seen. Assumes nothing.
use mathlib.Core.Path.{◌≡◌, ◌∙◌, sym, refl, ap}
use mathlib.Core.List.{List, [], ◌∷◌, map}
use Prim.Native.Nat.{ℕ}
use lib.ListN.{replicate}
use lib.IntN.{ℤ}
use Rattle.rules.specs.declared.Settings.{Settings}
use Rattle.rules.specs.Opening.{opened_in}
use Rattle.rules.specs.Clicks.{Play}
use Rattle.rules.specs.Calls.{Outcome, cells_in}
use Rattle.rules.specs.declared.Hint.{Hint}
use Rattle.rules.specs.declared.Score.{Score}
use Rattle.rules.specs.declared.Advice.{Advice}
use Rattle.rules.specs.Trainer.{hint_of, ask_of, report_of}
use Rattle.secrecy.specs.Demand.{Seen, seen, seen_all, seen_of, game, stopped}
use Rattle.secrecy.proofs.Secrecy.{secrecy, stopped_secrecy}
use Rattle.league.specs.Secret.{seen_by}
use Rattle.league.proofs.Secret.{code_secrecy}
use Rattle.hinting.specs.Twins.{hints, lesson, HintQuiet}

-- what is seen gives the hint
abbrev hint_in : Settings → Seen → Hint
hint_in s x = hint_of s.rows s.columns x.shown

hints_seen : (s : Settings) (before : List ℕ) (os : List Play) → hints s os ≡ map (hint_in s) (seen_all before os)
unfolding seen_all
hints_seen s before [] = refl
hints_seen s before (o ∷ os) = ap (λ (l : List Hint). hint_of s.rows s.columns o.desk.shown ∷ l) (hints_seen s o.desk.shown os)

by_seen : (s : Settings) (os ps : List Play) → seen_of s os ≡ seen_of s ps → hints s os ≡ hints s ps
by_seen s os ps e = hints_seen s (replicate (cells_in s) 10) os ∙ ap (map (hint_in s)) e ∙ sym (hints_seen s (replicate (cells_in s) 10) ps)

-- the same of outcomes
hints_by : (s : Settings) (os : List Outcome) → map (λ (o : Outcome). hint_of s.rows s.columns o.shown) os ≡ map (hint_in s) (map seen_by os)
hints_by s [] = refl
hints_by s (o ∷ os) = ap (λ (l : List Hint). hint_of s.rows s.columns o.shown ∷ l) (hints_by s os)

-- a lesson, from what is seen alone
lesson_in : Settings → Score → List ℕ → List Seen → List Advice
lesson_in s t es [] = []
lesson_in s t [] (x ∷ xs) = []
lesson_in s t (code ∷ []) (x ∷ xs) = []
lesson_in s t (code ∷ r ∷ []) (x ∷ xs) = []
lesson_in s t (code ∷ r ∷ c ∷ es) (x ∷ xs) =
    let a = ask_of (report_of t r c x.opened) s.rows s.columns x.shown in
    a ∷ lesson_in s a.score es xs

lesson_seen : (s : Settings) (t : Score) (before es : List ℕ) (os : List Play) → lesson s t before es os ≡ lesson_in s t es (seen_all before os)
unfolding lesson lesson_in seen_all
lesson_seen s t before es [] = refl
lesson_seen s t before [] (o ∷ os) = refl
lesson_seen s t before (code ∷ []) (o ∷ os) = refl
lesson_seen s t before (code ∷ r ∷ []) (o ∷ os) = refl
lesson_seen s t before (code ∷ r ∷ c ∷ es) (o ∷ os) =
    let a : Advice = ask_of (report_of t r c (opened_in before o.desk.shown)) s.rows s.columns o.desk.shown in
    ap (λ (l : List Advice). a ∷ l) (lesson_seen s a.score o.desk.shown es os)

-- HINT-QUIET
pub hint_quiet : HintQuiet
hint_quiet = record {
  boards = λ R C shown shown' e. ap (hint_of R C) e;
  games = λ s events A B tw. by_seen s (game s events A) (game s events B) (secrecy s events A B tw);
  books = λ s events A B tw. by_seen s (stopped s events A) (stopped s events B) (stopped_secrecy s events A B tw);
  calls = λ s cs A B os ps g h tw. hints_by s os ∙ ap (map (hint_in s)) (code_secrecy s cs A B os ps g h tw) ∙ sym (hints_by s ps);
  lessons = λ s events t A B tw.
      lesson_seen s t (replicate (cells_in s) 10) events (game s events A) ∙ ap (lesson_in s t events) (secrecy s events A B tw)
      ∙ sym (lesson_seen s t (replicate (cells_in s) 10) events (game s events B));
}
