-- The scan of the flag pass that flags each cell as it is found, and what its parts require and ensure. It leaves what rules' `flag_pass` leaves: `found_as_listed` (proofs/AsFound.antt).
use Rattle.std.specs.Prelude.{◌≡◌, List, ℕ, zero, suc, ◌+◌, ◌*◌, length, ℤ}
use Rattle.rules.specs.declared.Position.{Position}
use Rattle.rules.specs.Words.{pick}
use Rattle.rules.specs.States.{with_flag}
use Rattle.rules.specs.Grid.{cell_of, neighbour}
use Rattle.rules.specs.Lent.{bit_bytes}
use Rattle.rules.specs.Clicks.{Desk, desk}
use Rattle.rules.specs.Passes.{ripe_at, flag_one}
use Rattle.cells.specs.Ground.{Mined}
use Rattle.cells.specs.Promises.{closed_in}

-- ---- the scan --------------------------------------------------------------------------------------------------------------------------

-- those of a cell's first k neighbours that show 10 are flagged
unfoldable pub flag_around : List ℤ → ℕ → ℕ → ℕ → ℕ → Desk → Desk
flag_around B R C i zero d = d
flag_around B R C i (suc k) d = flag_one B (neighbour R C i k) (flag_around B R C i k d)

-- all of a ripe cell's, which is asked before the first flag
unfoldable pub flag_beside : List ℤ → ℕ → ℕ → ℕ → Desk → Desk
flag_beside B R C i d = pick (ripe_at R C d.shown i) (flag_around B R C i 8 d) d

-- the first n cells of a row
unfoldable pub flag_row : List ℤ → ℕ → ℕ → ℕ → ℕ → Desk → Desk
flag_row B R C row zero d = d
flag_row B R C row (suc n) d = flag_beside B R C (cell_of C row n) (flag_row B R C row n d)

-- the first n rows
unfoldable pub flag_rows : List ℤ → ℕ → ℕ → ℕ → Desk → Desk
flag_rows B R C zero d = d
flag_rows B R C (suc n) d = flag_row B R C n C (flag_rows B R C n d)

-- ---- what its parts require and ensure -------------------------------------------------------------------------------------------------

-- the boards fit, and each cell has its bit
pub record Flaggable (B : List ℤ) (shown bits : List ℕ) (R C : ℕ) : Type 0 where
  pub mined : Mined B R C
  pub board : length shown ≡ R * C
  pub bytes : length bits ≡ bit_bytes (R * C)

-- with n flags counted before and n' after, the desk of any position is what it should be; each cell that is closed no more was counted
pub record Flags (due : Desk → Desk) (n : ℕ) (shown bits : List ℕ) (n' : ℕ) (shown' bits' : List ℕ) : Type 0 where
  pub outcome : (p : Position) → desk (with_flag p (p.counts.flag + n')) shown' bits' ≡ due (desk (with_flag p (p.counts.flag + n)) shown bits)
  pub count : n' + closed_in shown' ≡ n + closed_in shown
