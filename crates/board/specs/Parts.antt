-- What the inner functions ensure.
use Rattle.std.specs.Prelude.{◌≡◌, List, ℕ, ltb, length, get_or, Option, Some, None}
use Rattle.rules.specs.declared.Pointer.{Pointer}
use Rattle.rules.specs.declared.Settings.{Settings}
use Rattle.rules.specs.Words.{pick}
use Rattle.rules.specs.Lent.{work_after}
use Rattle.rules.specs.Clicks.{Desk}
use Rattle.rules.specs.Step.{pointer_of, refusal_at}
use Rattle.rules.specs.Calls.{cells_in}
use Rattle.game.specs.Core.{Blank}

-- work w is cleared, and blank for the core
pub record Blanked (s : Settings) (w w' : List ℕ) : Type 0 where
  pub cleared : w' ≡ work_after (cells_in s) w
  pub blank : Blank s w'

-- 30 to 33 of one event, or 0
abbrev pub refusal_by : ℕ → Option Pointer → Desk → ℕ
refusal_by code (Some x) d = refusal_at code x d
refusal_by code None d = 30

abbrev pub refusal_on : ℕ → ℕ → ℕ → Desk → ℕ
refusal_on code r c d = refusal_by code (pointer_of d.position.settings r c) d

-- what the first event of a row is refused with, or 0
abbrev pub first_refusal : List ℕ → Desk → ℕ
first_refusal events d = pick (ltb (length events) 3) 0 (refusal_on (get_or events 0 0) (get_or events 1 0) (get_or events 2 0) d)
