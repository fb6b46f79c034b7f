-- What the parts of the position check require and find: the counts of one scan, and the tests of the first cells and bits.
use Rattle.std.specs.Prelude.{◌≡◌, Bool, not, ◌||◌, List, ℕ, ◌+◌, ◌*◌, ◌≤◌, length, get_or, ℤ}
use Rattle.rules.specs.Words.{bit, count, every}
use Rattle.rules.specs.Board.{face_at, mine_at}
use Rattle.rules.specs.Lent.{bit_at}
use Rattle.rules.specs.Opening.{is_open}
use Rattle.rules.specs.Lawful.{shows, cell_lawful}
use Rattle.cells.specs.Ground.{Valued}
use Rattle.lawful.specs.declared.Census.{Census}

-- how many of the first n cells show something that passes a test
abbrev pub among_first : (ℕ → Bool) → List ℕ → ℕ → ℕ
among_first f shown n = count (λ i. f (get_or shown i 0)) n

-- the counts of the first n cells
pub record Counted (shown : List ℕ) (n : ℕ) (c : Census) : Type 0 where
  pub opens : c.opens ≡ among_first is_open shown n
  pub elevens : c.flags ≡ among_first (shows 11) shown n
  pub fourteens : c.wrong ≡ among_first (shows 14) shown n
  pub fifteens : c.hits ≡ among_first (shows 15) shown n

-- one cell more was counted, which shows x
pub record OneMore (past : Census) (x : ℕ) (c : Census) : Type 0 where
  pub opens : c.opens ≡ past.opens + bit (is_open x)
  pub elevens : c.flags ≡ past.flags + bit (shows 11 x)
  pub fourteens : c.wrong ≡ past.wrong + bit (shows 14 x)
  pub fifteens : c.hits ≡ past.hits + bit (shows 15 x)

-- the first n cells show what they may
unfoldable pub cells_lawful : Bool → Bool → List ℤ → List ℕ → ℕ → Bool
cells_lawful question loss B shown n = every (λ i. cell_lawful question loss (face_at B i) (get_or shown i 0)) n

-- a bit is clear, or that of a mine
unfoldable pub bit_lawful : List ℤ → List ℕ → ℕ → Bool
bit_lawful B bits n = not (bit_at bits n) || mine_at B n

-- so are the eight of a byte
abbrev pub byte_lawful : List ℤ → List ℕ → ℕ → Bool
byte_lawful B bits at = every (λ k. bit_lawful B bits (8 * at + k)) 8

-- boards that can be checked: the tests before this one give this
pub record Checkable (B : List ℤ) (shown bits : List ℕ) : Type 0 where
  pub same : length B ≡ length shown
  pub cells : length shown ≤ 2048
  pub bytes : length bits ≤ 2048
  pub valued : Valued B
