-- Opening as the code does it: a cell is opened when it is found, and only a 0 goes on the stack.
use Rattle.std.specs.Prelude.{Bool, ◌&&◌, List, [], ◌∷◌, ℕ, zero, suc, eqb, ℤ}
use Rattle.rules.specs.Grid.{neighbour, push_if}
use Rattle.rules.specs.Board.{face_at}
use Rattle.rules.specs.Opening.{closed_at, shown_after, hit_after, Opened}

-- where an opening stands: the 0 cells whose neighbours are yet to be looked at, what is shown, and whether a mine was hit
pub record Front : Type 0 where
  pub stack : List ℕ
  pub shown : List ℕ
  pub hit : Bool

abbrev pub front : List ℕ → List ℕ → Bool → Front
front st shown hit = record { stack = st; shown = shown; hit = hit }

-- a closed cell is opened, and a 0 goes on the stack
unfoldable pub touched : List ℤ → ℕ → Front → Front
touched B q s = front (push_if (closed_at s.shown q && eqb (face_at B q) 0) q s.stack) (shown_after B s.shown q) (hit_after B s.shown q s.hit)

-- the first n neighbours of a cell
unfoldable pub touched_around : List ℤ → ℕ → ℕ → ℕ → ℕ → Front → Front
touched_around B R C c zero s = s
touched_around B R C c (suc n) s = touched B (neighbour R C c n) (touched_around B R C c n s)

-- the given cells
unfoldable pub touched_all : List ℤ → List ℕ → Front → Front
touched_all B [] s = s
touched_all B (q ∷ st) s = touched B q (touched_all B st s)

-- the stack is worked off, in at most so many turns
unfoldable pub quick : List ℤ → ℕ → ℕ → ℕ → List ℕ → List ℕ → Bool → Opened
quick B R C zero st shown hit = record { shown = shown; hit = hit }
quick B R C (suc f) [] shown hit = record { shown = shown; hit = hit }
quick B R C (suc f) (c ∷ st) shown hit =
    let t = touched_around B R C c 8 (front st shown hit) in
    quick B R C f t.stack t.shown t.hit

abbrev pub quick_from : List ℤ → ℕ → ℕ → ℕ → Front → Opened
quick_from B R C f s = quick B R C f s.stack s.shown s.hit
