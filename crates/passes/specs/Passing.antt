-- A round of both passes, as the code has it.
use Rattle.std.specs.Prelude.{true, List, ℕ}
use Rattle.rules.specs.Clicks.{Desk, desk}
use Rattle.rules.specs.Passes.{Round}
use Rattle.passes.specs.declared.Passed.{Passed}

-- a round of both passes in the code, with the shown board and the bits
abbrev pub round : Passed → List ℕ → List ℕ → Round
round r shown bits = record { desk = desk r.position shown bits; any = r.any }

-- a desk on which the turns go on
abbrev pub going : Desk → Round
going d = record { desk = d; any = true }
