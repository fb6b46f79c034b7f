-- What the parts of a left click ask and do.
use Rattle.std.specs.Prelude.{◌≡◌, Bool, true, false, List, ℕ, ◌*◌, ◌<◌, length, get_or, ℤ}
use Rattle.rules.specs.declared.Settings.{Settings}
use Rattle.rules.specs.declared.Position.{Position}
use Rattle.rules.specs.Words.{pick}
use Rattle.rules.specs.Board.{face_at, mine_at, lone_at}
use Rattle.rules.specs.Opening.{refreshed}
use Rattle.rules.specs.Clicks.{Desk, Play, desk, rows_of, columns_of, ended, left_counts}
use Rattle.cells.specs.Ground.{Mined}
use Rattle.cells.specs.Promises.{Leaves}

-- a closed number of the board, and whether it is lone
pub record NumberAt (B : List ℤ) (s : Settings) (shown : List ℕ) (i face : ℕ) (lone : Bool) : Type 0 where
  pub mined : Mined B s.rows s.columns
  pub board : length shown ≡ s.rows * s.columns
  pub inside : i < s.rows * s.columns
  pub closed : get_or shown i 0 ≡ 10
  pub own : face ≡ face_at B i
  pub nonzero : face ≡ 0 → ⊥
  pub safe : face ≡ 15 → ⊥
  pub alone : lone ≡ lone_at B s.rows s.columns i

-- a cell's own face, which is a 0 or a mine
pub record SpreadsAt (B : List ℤ) (i face : ℕ) : Type 0 where
  pub own : face ≡ face_at B i
  pub zero : (face ≡ 15 → ⊥) → face ≡ 0

-- whether a face is a number
pub record Told (face : ℕ) (number : Bool) : Type 0 where
  pub yes : number ≡ true → (face ≡ 0 → ⊥) × (face ≡ 15 → ⊥)
  pub no : number ≡ false → (face ≡ 15 → ⊥) → face ≡ 0

-- counts that the boards decide; the work comes back as it was lent
abbrev pub Adds : (Desk → Desk) → Position → List ℕ → List ℕ → Position → List ℕ → Type 0
Adds f p shown work r work' = (bits : List ℕ) → Leaves (desk r shown bits) (f (desk p shown bits)) work work'

-- the cells of a stack are opened, with an answer where no mine is hit
abbrev pub opens_with : List ℤ → ℕ → List ℕ → Desk → Play
opens_with B n given d = ended n d (refreshed B (rows_of d) (columns_of d) given d.shown)

-- a mine counts nothing, any other cell lce + 1 and solved_left
abbrev pub left_adds : List ℤ → ℕ → Desk → Desk
left_adds B i d = pick (mine_at B i) d (left_counts B d i)
