-- What opening may do to a cell.
use Rattle.std.specs.Prelude.{◌≡◌, Bool, true, false, List, [], ◌∷◌, ◌⊎◌, ℕ, ℤ}
use Rattle.rules.specs.Board.{face_at, mine_at}

-- q is one of the cells
abbrev pub In : ℕ → List ℕ → Type 0
In q [] = ⊥
In q (x ∷ l) = (q ≡ x) ⊎ In q l

-- from what cell i showed to what it shows: the same; from closed to its face; where a mine was hit, from a flag on a safe cell to a wrong flag
pub data Changed (B : List ℤ) (hit : Bool) (i : ℕ) : ℕ → ℕ → Type 0 where
  kept : {x : ℕ} → Changed B hit i x x
  opened : Changed B hit i 10 (face_at B i)
  wrong : hit ≡ true → mine_at B i ≡ false → Changed B hit i 11 14
