-- Which cell is wrong: what the search for it requires, and what its place says.
use Rattle.std.specs.Prelude.{◌≡◌, Bool, true, false, List, ℕ, ◌*◌, ◌<◌, length, ℤ}
use Rattle.rules.specs.declared.Place.{Place}
use Rattle.rules.specs.declared.Place.TheVariants.{At}
use Rattle.rules.specs.Grid.{cell_of}
use Rattle.cells.specs.Ground.{Sized, Mined}

-- 22 was found on a board of its size, and 23 on one whose values are right too
pub record Placeable (R C : ℕ) (B : List ℤ) (n : ℕ) : Type 0 where
  pub sized : n ≡ 22 → Sized R C × (length B ≡ R * C)
  pub valued : n ≡ 23 → Mined B R C

-- a place is the first cell of the board that fails a test: it is on the board, it fails, and every cell before it passes
pub record FirstWrong (R C : ℕ) (test : ℕ → Bool) (x : Place) : Type 0 where
  pub row : ℕ
  pub column : ℕ
  pub here : x ≡ At row column
  pub rows : row < R
  pub columns : column < C
  pub fails : test (cell_of C row column) ≡ false
  pub before : (i : ℕ) → i < cell_of C row column → test i ≡ true
