-- A place that a search may find, and the number that the definitions give for it.
use Rattle.std.specs.Prelude.{ℕ, ltb, Option, Some, None}
use Rattle.rules.specs.Words.{pick}

-- a place below n, or n for none
abbrev pub found : ℕ → ℕ → Option ℕ
found n k = pick (ltb k n) (Some k) None
