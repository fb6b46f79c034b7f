-- What a league relies on, by the contracts of the class's functions: games that noflag_board::setup begins, and that any row of calls of its step
-- continues, refused ones among them, are clean after every call, and look the same on twins.
use Rattle.std.specs.Prelude.{◌≡◌, Bool, List, [], ◌∷◌, map, ℕ, ℤ}
use Rattle.rules.specs.declared.Settings.{Settings}
use Rattle.rules.specs.declared.Answer.{Answer}
use Rattle.rules.specs.Clicks.{Desk, desk}
use Rattle.rules.specs.Calls.{Outcome, left_by, work_fits}
use Rattle.secrecy.specs.Demand.{end_of}
use Rattle.league.specs.Secret.{play_of, seen_by}
use Rattle.rules.specs.Noflag.{ClassSetupIs, ClassStepIs}
use Rattle.noflag.specs.Class.{AllClean}
use Rattle.noflag.specs.Demand.{ClassTwins}

-- a call of the class's step, and whether the work that it is lent is long enough
pub record Call : Type 0 where
  pub code : ℕ
  pub row : ℕ
  pub column : ℕ
  pub enough : Bool

-- a row of calls, each at the desk that the one before left, accepted or refused, and with work of its own; os are their outcomes
pub data Row (B : List ℤ) : Desk → List Call → List Outcome → Type 0 where
  none : {d : Desk} → Row B d [] []
  next : {d : Desk} {call : Call} {calls : List Call} {os : List Outcome} (work : List ℕ) (o : Outcome)
      → work_fits d.position.settings work ≡ call.enough
      → ClassStepIs d.position call.code call.row call.column B d.shown d.bits work o.answer o.shown o.bits o.work
      → Row B (left_by o) calls os
      → Row B d (call ∷ calls) (o ∷ os)

-- the class's setup accepted a board, whatever stood in the shown board and the bits that it was lent, and the calls were made, with these outcomes
pub record Game (s : Settings) (calls : List Call) (B : List ℤ) (os : List Outcome) : Type 0 where
  pub shown : List ℕ
  pub bits : List ℕ
  pub begun : Answer
  pub board : List ℕ
  pub bytes : List ℕ
  pub setup : ClassSetupIs s B shown bits begun board bytes
  pub accepted : begun.number ≡ 0
  pub goes : Row B (desk begun.position board bytes) calls os

-- every call leaves a clean desk
abbrev pub CodeClean : Type 0
CodeClean = (s : Settings) (calls : List Call) (B : List ℤ) (os : List Outcome) → Game s calls B os → AllClean (map play_of os)

-- two games of the same calls on twin boards, each with memory of its own, show the same answer or refusal, value, shown board, states and counts
-- after every call
abbrev pub CodeDemand : Type 0
CodeDemand =
    (s : Settings) (calls : List Call) (A B : List ℤ) (os ps : List Outcome) → Game s calls A os → Game s calls B ps
    → ClassTwins s (end_of s A (map play_of os)) A B → map seen_by os ≡ map seen_by ps
