-- Opening (`refresh_board`): given cells open; a 0 opens its neighbours showing 10, never 11 or 17. If a mine is hit, each flag on a safe cell becomes 14.
use Rattle.std.specs.Prelude.{Bool, false, not, ◌&&◌, ◌||◌, List, [], ◌∷◌, ℕ, zero, suc, ◌+◌, ◌-◌, ◌*◌, leb, eqb, length, get_or, set, ℤ}
use Rattle.rules.specs.Words.{pick, count}
use Rattle.rules.specs.Grid.{pushed}
use Rattle.rules.specs.Board.{face_at, mine_at}

-- the cell shows 10 (off the board nothing does)
abbrev pub closed_at : List ℕ → ℕ → Bool
closed_at shown i = eqb (get_or shown i 0) 10

pub record Opened : Type 0 where
  pub shown : List ℕ
  pub hit : Bool

-- a cell is taken off the stack and opened; one that no longer shows 10 changes nothing
unfoldable pub shown_after : List ℤ → List ℕ → ℕ → List ℕ
shown_after B shown i = pick (closed_at shown i) (set shown i (face_at B i)) shown

-- a 0 puts its neighbours showing 10 on the stack
unfoldable pub stack_after : List ℤ → ℕ → ℕ → List ℕ → ℕ → List ℕ → List ℕ
stack_after B R C shown i st = pick (closed_at shown i && eqb (face_at B i) 0) (pushed R C (closed_at (set shown i 0)) i 8 st) st

-- a mine is hit
unfoldable pub hit_after : List ℤ → List ℕ → ℕ → Bool → Bool
hit_after B shown i hit = (closed_at shown i && mine_at B i) || hit

-- the stack is worked off, in at most so many turns
unfoldable pub run : List ℤ → ℕ → ℕ → ℕ → List ℕ → List ℕ → Bool → Opened
run B R C zero st shown hit = record { shown = shown; hit = hit }
run B R C (suc f) [] shown hit = record { shown = shown; hit = hit }
run B R C (suc f) (i ∷ st) shown hit = run B R C f (stack_after B R C shown i st) (shown_after B shown i) (hit_after B shown i hit)

-- turns that always suffice
abbrev pub turns : ℕ → ℕ
turns cells = 8 * cells + 8

-- a flag on a safe cell becomes 14
abbrev pub wrong_flag : ℕ → ℕ → ℕ
wrong_flag f x = pick (eqb x 11 && not (eqb f 15)) 14 x

-- the first n cells with their wrong flags shown
unfoldable pub crossed : List ℤ → ℕ → List ℕ → List ℕ
crossed B zero shown = shown
crossed B (suc n) shown = set (crossed B n shown) n (wrong_flag (face_at B n) (get_or shown n 0))

abbrev pub crossed_if_hit : List ℤ → Opened → Opened
crossed_if_hit B o = record { shown = pick o.hit (crossed B (length o.shown) o.shown) o.shown; hit = o.hit }

-- THE opening of the given cells, a stack
unfoldable pub refreshed : List ℤ → ℕ → ℕ → List ℕ → List ℕ → Opened
refreshed B R C given shown = crossed_if_hit B (run B R C (turns (R * C)) given shown false)

-- ---- what was opened -------------------------------------------------------------------------------------------------------------------

-- how many cells show something that passes a test
unfoldable pub count_shown : (ℕ → Bool) → List ℕ → ℕ
count_shown f shown = count (λ i. f (get_or shown i 0)) (length shown)

-- 0 to 8
abbrev pub is_open : ℕ → Bool
is_open x = leb x 8

-- how many cells went from closed to showing 0 to 8: the open cells after less those before
abbrev pub opened_in : List ℕ → List ℕ → ℕ
opened_in before after = count_shown is_open after - count_shown is_open before
