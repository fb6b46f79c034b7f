-- What the search for the next useful cell ensures.
use Rattle.std.specs.Prelude.{◌≡◌, Bool, true, false, ◌&&◌, List, ℕ, ◌+◌, ◌<◌, ◌≤◌, ltb, eqb, get_or}
use Rattle.rules.specs.Grid.{cell_of}
use Rattle.rules.specs.Opening.{closed_at}
use Rattle.rules.specs.Clicks.{flag_at, chord_is_useful}
use Rattle.cells.specs.Ground.{ring}

-- r is the first number from a to n that passes a test, or n where none below n does
pub record First (p : ℕ → Bool) (a n r : ℕ) : Type 0 where
  pub up : a ≤ r
  pub most : r ≤ n
  pub none : (i : ℕ) → a ≤ i → i < r → p i ≡ false
  pub some : r < n → p r ≡ true

-- a cell with all its eight neighbours is useful, told from the first of the nine cells
abbrev pub useful_inside : ℕ → List ℕ → ℕ → Bool
useful_inside C shown q =
    ltb (get_or shown (q + C + 1) 0) 8 && (eqb (ring C (flag_at shown) q) (get_or shown (q + C + 1) 0) && ltb 0 (ring C (closed_at shown) q))

-- a yes says that no cell of a row but its two ends is useful
pub record OnlyEnds (R C : ℕ) (shown : List ℕ) (row : ℕ) (only : Bool) : Type 0 where
  pub none : only ≡ true → (c : ℕ) → 1 ≤ c → c + 1 < C → chord_is_useful R C shown (cell_of C row c) ≡ false
