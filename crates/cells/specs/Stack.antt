-- A stack in lent work: what pushing leaves of the list that holds it.
use Rattle.std.specs.Prelude.{◌≡◌, List, ℕ, ◌+◌, ◌≤◌, length, get_or}
use Rattle.rules.specs.Words.{stack_of}

-- a list of cells as a stack: its last cell on top
abbrev pub stacked : List ℕ → List ℕ
stacked cells = stack_of cells (length cells)

-- w' agrees with w from n on
abbrev pub Rest : ℕ → List ℕ → List ℕ → Type 0
Rest n w w' = (i : ℕ) → n ≤ i → get_or w' i 0 ≡ get_or w i 0

-- work w with its top at t became w' with its top at r: the stack is now st, at most n higher, and nothing above it changed
pub record Grown (w : List ℕ) (t n : ℕ) (st w' : List ℕ) (r : ℕ) : Type 0 where
  pub stack : stack_of w' r ≡ st
  pub frame : Rest r w w'
  pub up : t ≤ r
  pub most : r ≤ t + n
