-- What a scan of the chord pass ensures.
use Rattle.std.specs.Prelude.{true, List, ℕ}
use Rattle.rules.specs.declared.Position.{Position}
use Rattle.rules.specs.Clicks.{desk}
use Rattle.rules.specs.Passes.{Scan}
use Rattle.cells.specs.Promises.{Leaves}
use Rattle.chording.specs.declared.Scanned.{Scanned}

-- a chord opened something
abbrev pub yes : Position → Scanned
yes p = record { position = p; any = true; ever = true }

-- a scan of the code, with the shown board and the bits
abbrev pub scan : Scanned → List ℕ → List ℕ → Scan
scan s shown bits = record { desk = desk s.position shown bits; any = s.any; ever = s.ever }

-- a scan that leaves the bits alone, whatever they are; the work comes back as it was lent
abbrev pub Scans : (List ℕ → Scan) → List ℕ → Scanned → List ℕ → List ℕ → Type 0
Scans due w r shown' w' = (bits : List ℕ) → Leaves (scan r shown' bits) (due bits) w w'
