-- What the parts of opening require and ensure.
use Rattle.std.specs.Prelude.{◌≡◌, Bool, List, ℕ, ◌+◌, ◌*◌, ◌<◌, ◌≤◌, length, get_or, ℤ}
use Rattle.rules.specs.Words.{stack_of}
use Rattle.rules.specs.Lent.{work_room}
use Rattle.rules.specs.Opening.{Opened, count_shown}
use Rattle.rules.specs.Lawful.{shows}
use Rattle.cells.specs.Ground.{Sized, Valued, Zeros}
use Rattle.opening.specs.Quick.{Front, front, quick}

-- the entries from t to n are 0
abbrev pub Spare : ℕ → ℕ → List ℕ → Type 0
Spare t n w = (i : ℕ) → t ≤ i → i < n → get_or w i 0 ≡ 0

-- w' agrees with w from n on
abbrev pub Rest : ℕ → List ℕ → List ℕ → Type 0
Rest n w w' = (i : ℕ) → n ≤ i → get_or w' i 0 ≡ get_or w i 0

-- the boards agree, and the stack, whose top is at t, has room for every closed cell
pub record Roomy (B : List ℤ) (shown w : List ℕ) (t : ℕ) : Type 0 where
  pub valued : Valued B
  pub same : length B ≡ length shown
  pub small : length shown ≤ 2048
  pub room : t + count_shown (shows 10) shown ≤ length w

-- the boards are of their size, and the stack has room
pub record Seated (B : List ℤ) (R C : ℕ) (shown w : List ℕ) (t : ℕ) : Type 0 where
  pub sized : Sized R C
  pub board : length shown ≡ R * C
  pub roomy : Roomy B shown w t

-- work w with its top at t became w' with its top at t', and the opening stands at s: nothing above the top changed
pub record Moved (s : Front) (w : List ℕ) (t : ℕ) (shown' w' : List ℕ) (t' : ℕ) (hit' : Bool) : Type 0 where
  pub stands : front (stack_of w' t') shown' hit' ≡ s
  pub frame : Rest t' w w'
  pub up : t ≤ t'

-- the stack in the first t entries of w was worked off, and its entries are 0
pub record Worked (B : List ℤ) (R C t : ℕ) (shown w : List ℕ) (hit : Bool) (shown' w' : List ℕ) (hit' : Bool) : Type 0 where
  pub outcome : quick B R C (R * C) (stack_of w t) shown hit ≡ record { shown = shown'; hit = hit' }
  pub clear : Zeros (work_room (R * C)) w'
  pub rest : Rest (work_room (R * C)) w w'

-- an opened board, and whether a mine was hit
abbrev pub opened : List ℕ → Bool → Opened
opened shown hit = record { shown = shown; hit = hit }
