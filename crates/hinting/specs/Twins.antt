-- Demand 3 covers the hint, and the score with it: equal shown boards give equal hints, and twin games give equal hints and equal scores after every event.
-- proofs/Twins.antt proves it.
use Rattle.std.specs.Prelude.{◌≡◌, List, [], ◌∷◌, map, ℕ, replicate, ℤ}
use Rattle.rules.specs.declared.Settings.{Settings}
use Rattle.rules.specs.Opening.{opened_in}
use Rattle.rules.specs.Clicks.{Play}
use Rattle.rules.specs.Calls.{Outcome, cells_in}
use Rattle.rules.specs.declared.Hint.{Hint}
use Rattle.rules.specs.declared.Score.{Score}
use Rattle.rules.specs.declared.Advice.{Advice}
use Rattle.rules.specs.Trainer.{hint_of, ask_of, report_of}
use Rattle.secrecy.specs.Demand.{game, stopped, end_of, Twins}
use Rattle.league.specs.Secret.{Call, play_of, Game}

-- the hint after each play of a game
abbrev pub hints : Settings → List Play → List Hint
hints s os = map (λ (o : Play). hint_of s.rows s.columns o.desk.shown) os

-- a unit that is told of every event, with how many cells it opened, and is asked after it: what it answers each time, with its score.
-- `before` is what was shown before the event; the events are three bytes each
unfoldable pub lesson : Settings → Score → List ℕ → List ℕ → List Play → List Advice
lesson s t before es [] = []
lesson s t before [] (o ∷ os) = []
lesson s t before (code ∷ []) (o ∷ os) = []
lesson s t before (code ∷ r ∷ []) (o ∷ os) = []
lesson s t before (code ∷ r ∷ c ∷ es) (o ∷ os) =
    let a = ask_of (report_of t r c (opened_in before o.desk.shown)) s.rows s.columns o.desk.shown in
    a ∷ lesson s a.score o.desk.shown es os

pub record HintQuiet : Type 0 where
  pub boards : (R C : ℕ) (shown shown' : List ℕ) → shown ≡ shown' → hint_of R C shown ≡ hint_of R C shown'
  -- a game that goes on after a refused event, and one that ends with it, as a book's
  pub games : (s : Settings) (events : List ℕ) (A B : List ℤ) → Twins s (end_of s A (game s events A)) A B → hints s (game s events A) ≡ hints s (game s events B)
  pub books : (s : Settings) (events : List ℕ) (A B : List ℤ) → Twins s (end_of s A (stopped s events A)) A B
      → hints s (stopped s events A) ≡ hints s (stopped s events B)
  -- the calls of the public functions
  pub calls : (s : Settings) (cs : List Call) (A B : List ℤ) (os ps : List Outcome) → Game s cs A os → Game s cs B ps → Twins s (end_of s A (map play_of os)) A B
      → map (λ (o : Outcome). hint_of s.rows s.columns o.shown) os ≡ map (λ (o : Outcome). hint_of s.rows s.columns o.shown) ps
  -- a lesson, from any score and a board whose every cell is closed
  pub lessons : (s : Settings) (events : List ℕ) (t : Score) (A B : List ℤ) → Twins s (end_of s A (game s events A)) A B
      → lesson s t (replicate (cells_in s) 10) events (game s events A) ≡ lesson s t (replicate (cells_in s) 10) events (game s events B)
