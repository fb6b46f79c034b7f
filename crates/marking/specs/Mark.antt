-- What marking a mine leaves: the bit, and what it adds to rce.
use Rattle.std.specs.Prelude.{◌≡◌, List, ℕ, ◌≤◌, ℤ}
use Rattle.rules.specs.Words.{bit}
use Rattle.rules.specs.Clicks.{bits_with, adds_rce}

-- a new flag's bit, tested and then set
pub record Marked (B : List ℤ) (bits : List ℕ) (i r : ℕ) (bits' : List ℕ) : Type 0 where
  pub adds : r ≡ bit (adds_rce B bits i)
  pub one : r ≤ 1
  pub after : bits' ≡ bits_with B bits i
