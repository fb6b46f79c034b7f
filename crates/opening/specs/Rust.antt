-- The loop as the Rust has it: a cell taken off the stack is opened again even where it is open. And how high the stack gets.
use Rattle.std.specs.Prelude.{Bool, ◌||◌, List, [], ◌∷◌, ℕ, zero, suc, max, eqb, length, set, ℤ}
use Rattle.rules.specs.Words.{pick}
use Rattle.rules.specs.Grid.{pushed}
use Rattle.rules.specs.Board.{face_at, mine_at}
use Rattle.rules.specs.Opening.{closed_at, shown_after, stack_after, Opened}

abbrev pub rust_stack : List ℤ → ℕ → ℕ → List ℕ → ℕ → List ℕ → List ℕ
rust_stack B R C shown i st = pick (eqb (face_at B i) 0) (pushed R C (closed_at (set shown i (face_at B i))) i 8 st) st

unfoldable pub rust_run : List ℤ → ℕ → ℕ → ℕ → List ℕ → List ℕ → Bool → Opened
rust_run B R C zero st shown hit = record { shown = shown; hit = hit }
rust_run B R C (suc f) [] shown hit = record { shown = shown; hit = hit }
rust_run B R C (suc f) (i ∷ st) shown hit = rust_run B R C f (rust_stack B R C shown i st) (set shown i (face_at B i)) (mine_at B i || hit)

-- the highest that the stack gets
unfoldable pub highest : List ℤ → ℕ → ℕ → ℕ → List ℕ → List ℕ → ℕ
highest B R C zero st shown = length st
highest B R C (suc f) [] shown = 0
highest B R C (suc f) (i ∷ st) shown = max (length (i ∷ st)) (highest B R C f (stack_after B R C shown i st) (shown_after B shown i))
