-- Demand 3 as what a league relies on, by the contracts of the public functions: two games that board::setup begins, and that any row of calls
-- of board::resolve, board::step, both as a pair, and board::step_flow continues, refused ones among them, look the same after every call.
use Rattle.std.specs.Prelude.{◌≡◌, Bool, true, List, [], ◌∷◌, map, ℕ, ◌≤◌, ℤ}
use Rattle.rules.specs.declared.Settings.{Settings}
use Rattle.rules.specs.declared.Answer.{Answer}
use Rattle.rules.specs.declared.Place.TheVariants.{Nowhere}
use Rattle.rules.specs.Clicks.{Desk, Play, desk, done}
use Rattle.rules.specs.Step.{step_on}
use Rattle.rules.specs.Calls.{left_by, Outcome, work_fits, setup_of, position_check}
use Rattle.rules.specs.Promises.{SetupIs, ResolveIs, StepIs, StepFlowIs}
use Rattle.secrecy.specs.Demand.{Seen, seen_of, game, end_of, Twins}

-- what is called: resolve with one event, step with a plain one, both for one event, or step_flow with a row of events
pub data Function : Type 0 where
  resolve : (code row column : ℕ) → Function
  step : (code row column : ℕ) → Function
  pair : (code row column : ℕ) → Function
  flow : (events : List ℕ) → Function

-- a call, and whether the work that it is lent is long enough
pub record Call : Type 0 where
  pub function : Function
  pub enough : Bool

-- what a call that only reads leaves of what it is lent
pub record Untouched (d : Desk) (work : List ℕ) (o : Outcome) : Type 0 where
  pub shown : o.shown ≡ d.shown
  pub bits : o.bits ≡ d.bits
  pub lent : o.work ≡ work

-- the pair: what resolve refuses is not stepped with; else the step has the code that resolve answered, at the position that it gave back
pub data PairIs (code row column : ℕ) (B : List ℤ) (d : Desk) (work : List ℕ) (o : Outcome) : Type 0 where
  unheard : ResolveIs d.position code row column B d.shown d.bits o.answer → (o.answer.number ≡ 0 → ⊥) → Untouched d work o
      → PairIs code row column B d work o
  stepped : (a : Answer) → ResolveIs d.position code row column B d.shown d.bits a → a.number ≡ 0
      → StepIs a.position a.value row column B d.shown d.bits work o.answer o.shown o.bits o.work
      → PairIs code row column B d work o

-- what the contract says of a function that is called at a desk and lent this work: o is its outcome
abbrev pub CallIs : Function → List ℤ → Desk → List ℕ → Outcome → Type 0
CallIs (resolve code row column) B d work o = ResolveIs d.position code row column B d.shown d.bits o.answer × Untouched d work o
CallIs (step code row column) B d work o =
    StepIs d.position code row column B d.shown d.bits work o.answer o.shown o.bits o.work
CallIs (pair code row column) B d work o = PairIs code row column B d work o
CallIs (flow events) B d work o =
    StepFlowIs d.position events B d.shown d.bits work o.answer o.shown o.bits o.work

-- an outcome as a play: its number, with the desk that is left
abbrev pub play_of : Outcome → Play
play_of o = done o.answer.number (left_by o)

-- what is seen of an outcome: its value is how many cells a step opened, and the plain code of what was resolved
abbrev pub seen_by : Outcome → Seen
seen_by o = record {
  answer = o.answer.number;
  opened = o.answer.value;
  shown = o.shown;
  game = o.answer.position.game;
  mouse = o.answer.position.mouse;
  counts = o.answer.position.counts;
}

-- a row of calls, each at the desk that the one before left, accepted or refused, and with work of its own; os are their outcomes
pub data Row (B : List ℤ) : Desk → List Call → List Outcome → Type 0 where
  none : {d : Desk} → Row B d [] []
  next : {d : Desk} {call : Call} {calls : List Call} {os : List Outcome} (work : List ℕ) (o : Outcome)
      → work_fits d.position.settings work ≡ call.enough
      → CallIs call.function B d work o
      → Row B (left_by o) calls os
      → Row B d (call ∷ calls) (o ∷ os)

-- setup accepted a board, whatever stood in the shown board and the bits that it was lent, and the calls were made, with these outcomes
pub record Game (s : Settings) (calls : List Call) (B : List ℤ) (os : List Outcome) : Type 0 where
  pub shown : List ℕ
  pub bits : List ℕ
  pub begun : Answer
  pub board : List ℕ
  pub bytes : List ℕ
  pub setup : SetupIs s B shown bits begun board bytes
  pub accepted : begun.number ≡ 0
  pub goes : Row B (desk begun.position board bytes) calls os

-- two games of the same calls on twin boards, each with memory of its own, show the same answer or refusal, value, shown board, states and counts
-- after every call
abbrev pub CodeDemand : Type 0
CodeDemand =
    (s : Settings) (calls : List Call) (A B : List ℤ) (os ps : List Outcome) → Game s calls A os → Game s calls B ps → Twins s (end_of s A (map play_of os)) A B
    → map seen_by os ≡ map seen_by ps

-- what an answer has beside them says nothing: a call of such a game has no place
abbrev pub Placeless : Type 0
Placeless = (f : Function) (B : List ℤ) (d : Desk) (work : List ℕ) (o : Outcome) → position_check B d ≡ 0 → CallIs f B d work o → o.answer.place ≡ Nowhere

-- ---- the games themselves --------------------------------------------------------------------------------------------------------------

-- every row of calls can be made on every board that setup accepts
abbrev pub Playable : Type 0
Playable =
    (s : Settings) (calls : List Call) (B : List ℤ) (shown bits : List ℕ) → (setup_of s B shown bits).answer.number ≡ 0
    → (os : List Outcome) × Game s calls B os

-- resolve and step called once an event, each time lent enough work
unfoldable pub steps_of : List ℕ → List Call
steps_of [] = []
steps_of (code ∷ []) = []
steps_of (code ∷ r ∷ []) = []
steps_of (code ∷ r ∷ c ∷ es) = record { function = pair code r c; enough = true } ∷ steps_of es

-- these calls leave the plays of the demand's own game, and show what the demand speaks of: their values are its sums
abbrev pub StepsPlay : Type 0
StepsPlay =
    (s : Settings) (events : List ℕ) (B : List ℤ) (os : List Outcome) → Game s (steps_of events) B os
    → (map play_of os ≡ game s events B) × (map seen_by os ≡ seen_of s (game s events B))

-- where a refused event leaves the desk as it was
abbrev pub RefusedStays : Type 0
RefusedStays = (B : List ℤ) (code r c : ℕ) (d : Desk) → 20 ≤ (step_on B code r c d).answer → (step_on B code r c d).desk ≡ d
