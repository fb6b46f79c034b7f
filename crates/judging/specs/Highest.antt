-- How high the stack of a walk gets, and that of the walks of a chord, of left to solve or of the total.
use Rattle.std.specs.Prelude.{◌&&◌, List, [], ◌∷◌, ℕ, zero, suc, ◌*◌, max, eqb, length, set, ℤ}
use Rattle.rules.specs.Words.{pick}
use Rattle.rules.specs.Grid.{pushed}
use Rattle.rules.specs.Board.{face_at}
use Rattle.rules.specs.Opening.{turns}
use Rattle.rules.specs.Judging.{free_at, kind, stack_by, marks_by, tally}

-- the highest that the stack gets while it is walked off (`walk`)
unfoldable pub highest : List ℤ → ℕ → ℕ → List ℕ → ℕ → List ℕ → List ℕ → ℕ
highest B R C shown zero st marks = length st
highest B R C shown (suc f) [] marks = 0
highest B R C shown (suc f) (i ∷ st) marks =
    max (length (i ∷ st))
    (highest B R C shown f
    (stack_by (kind B shown marks i) (pushed R C (free_at (set marks i 1)) i 8 st) st)
    (marks_by (kind B shown marks i) (set marks i 1) marks))

-- in a walk from one cell (`walk_from`)
abbrev pub highest_from : List ℤ → ℕ → ℕ → List ℕ → ℕ → List ℕ → ℕ
highest_from B R C shown i marks = highest B R C shown (turns (R * C)) (i ∷ []) marks

-- in all the walks from the cells of a stack (`tally`); a walk starts at a 0 without a mark
unfoldable pub highest_of : List ℤ → ℕ → ℕ → List ℕ → List ℕ → ℕ
highest_of B R C shown [] = 0
highest_of B R C shown (i ∷ st) =
    let marks = (tally B R C shown st).marks in
    max (highest_of B R C shown st) (pick (free_at marks i && eqb (face_at B i) 0) (highest_from B R C shown i marks) 0)
