-- The two calls that an event is played by, resolve and then the plain step, as one; and what an event is as one call.
use Rattle.std.specs.Prelude.{List, ℕ, eqb, ℤ}
use Rattle.rules.specs.declared.Answer.{Answer}
use Rattle.rules.specs.Words.{pick}
use Rattle.rules.specs.Clicks.{Desk, on}
use Rattle.rules.specs.Step.{step_on}
use Rattle.rules.specs.Calls.{Outcome, outcome, tested, resolve_of, step_of}

-- after what resolve answered: the plain code is stepped with, at the position that came back; where resolve refuses, nothing is called
abbrev pub pair_by : List ℤ → ℕ → ℕ → Desk → List ℕ → Answer → Outcome
pair_by B r c d work a = pick (eqb a.number 0) (step_of B a.value r c (on d a.position) work) (outcome a d.shown d.bits work)

abbrev pub pair_of : List ℤ → ℕ → ℕ → ℕ → Desk → List ℕ → Outcome
pair_of B code r c d work = pair_by B r c d work (resolve_of B code r c d)

-- an event of a game as one call, `l`, `r` and `m` among them: 20 to 33, or resolved and played
abbrev pub event_call_of : List ℤ → ℕ → ℕ → ℕ → Desk → List ℕ → Outcome
event_call_of B code r c d work = tested B d work (step_on B code r c d)
