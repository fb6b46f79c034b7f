-- The call that a packed step is for, and its line; and what reading and telling a step does to bytes that are known.
use Rattle.std.specs.Prelude.{List, ◌++◌, ℕ, eqb, get_or, take, ℤ}
use Rattle.std.specs.declared.option.Option.{Option}
use Rattle.std.specs.Io.KnownBytes.{Appends, Consumes}
use Rattle.rules.specs.Words.{pick}
use Rattle.rules.specs.Clicks.{Desk, desk}
use Rattle.rules.specs.Calls.{Outcome, outcome, resolve_of, step_of}
use Rattle.board.specs.Pair.{pair_of}
use Rattle.packed.specs.Packed.{position_in, signed_all}
use Rattle.packed.specs.Line.{line_after}
use Rattle.telling.specs.declared.Call.{Call}
use Rattle.telling.specs.declared.Call.TheVariants.{Resolve, Step, Both}

-- 1 is resolve alone, 2 the plain step alone, any other number both
abbrev pub called_by : ℕ → List ℤ → ℕ → ℕ → ℕ → Desk → List ℕ → Outcome
called_by which B code r c d work =
    pick (eqb which 1) (outcome (resolve_of B code r c d) d.shown d.bits work)
    (pick (eqb which 2) (step_of B code r c d work) (pair_of B code r c d work))

-- what the number means, and the call that is meant
unfoldable pub call_at : ℕ → Call
call_at n = pick (eqb n 1) Resolve (pick (eqb n 2) Step Both)

abbrev pub called : Call → List ℤ → ℕ → ℕ → ℕ → Desk → List ℕ → Outcome
called Resolve B code r c d work = outcome (resolve_of B code r c d) d.shown d.bits work
called Step B code r c d work = step_of B code r c d work
called Both B code r c d work = pair_of B code r c d work

-- the line of a packed step: its head, its mine board, shown board and bits, and whatever work is lent
abbrev pub step_line : List ℕ → List ℕ → List ℕ → List ℕ → List ℕ → List ℕ
step_line head mines shown bits work =
    line_after
    (called_by (get_or head 55 0) (signed_all mines) (get_or head 51 0) (get_or head 52 0) (get_or head 53 0) (desk (position_in head) shown bits) work)

-- a step was read, its mine board first, and its line was written
pub record Tells (from from' to to' : Option (List ℕ)) (head bytes work : List ℕ) : Type 0 where
  pub shown : List ℕ
  pub bits : List ℕ
  pub read : Consumes from from' (bytes ++ (shown ++ bits))
  pub line : Appends to to' (step_line head bytes shown bits work)

-- a front of a step's line was written, or nothing
pub record TellsPart (to to' : Option (List ℕ)) (head bytes work : List ℕ) : Type 0 where
  pub shown : List ℕ
  pub bits : List ℕ
  pub long : ℕ
  pub line : Appends to to' (take long (step_line head bytes shown bits work))
