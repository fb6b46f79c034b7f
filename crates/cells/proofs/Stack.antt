-- A stack in lent work grows: from nothing pushed, one push after the other.
use mathlib.Core.Path.{◌≡◌, refl, ap, ap₂, ◌∙◌}
use mathlib.Core.Bool.{Bool, true, false}
use mathlib.Core.List.{List, [], ◌∷◌, ◌++◌}
use Prim.Native.Nat.{ℕ, ◌+◌, ◌<◌, ◌≤◌}
use native.Mathlib.Omega.{arith}
use native.Mathlib.Numerals.{add-one}
use lib.ListN.{length, set, length-append, get_or-append}
use Rattle.std.proofs.lemmas.List.{length-take}
use lib.Seq.{get_or-set_other, get_or-append_seam}
use Rattle.rules.specs.declared.Cells.{Cells}
use Rattle.rules.specs.Cells.{cell_list}
use Rattle.rules.specs.Words.{stack_of}
use Rattle.rules.specs.Grid.{push_if}
use Rattle.cells.specs.Ground.{Below}
use Rattle.cells.specs.Stack.{stacked, Grown}
use Rattle.cells.proofs.Words.{stack_push, stack_same, stack_below, below_list}

-- ---- a list of cells -------------------------------------------------------------------------------------------------------------------

-- one cell more
pub stacked_push : (cells : List ℕ) (q : ℕ) → stacked (cells ++ q ∷ []) ≡ q ∷ stacked cells
unfolding stack_of
stacked_push cells q =
    ap (stack_of (cells ++ q ∷ [])) (length-append cells (q ∷ []) ∙ add-one (length cells))
    ∙ ap₂ (λ (x : ℕ) (l : List ℕ). x ∷ l) (get_or-append_seam cells q [] 0)
    (stack_same (cells ++ q ∷ []) cells (length cells) (λ i l. get_or-append cells (q ∷ []) 0 i l))

-- where those of the stack are cells of the board, those of the list are
pub stacked_below : (m : ℕ) (cells : List ℕ) → Below m (stacked cells) → Below m cells
stacked_below m cells b = below_list m cells (stack_below m cells (length cells) b)

-- the cells that are handed on are at most eight
pub listed_few : (cells : Cells) → length (cell_list cells) ≤ 8
listed_few cells = grind (arith, length-take, cells.few)

-- ---- lent work -------------------------------------------------------------------------------------------------------------------------

pub grown_start : (w : List ℕ) (t : ℕ) → Grown w t 0 (stack_of w t) w t
grown_start w t = record { stack = refl; frame = λ i le. refl; up = omega arith; most = omega arith }

-- and goes on
pub grown_on : (w : List ℕ) (t n m k : ℕ) (st w' : List ℕ) (r : ℕ) (st' w'' : List ℕ) (r' : ℕ) (st'' : List ℕ)
    → Grown w t n st w' r → Grown w' r m st' w'' r' → n + m ≤ k → st' ≡ st'' → Grown w t k st'' w'' r'
grown_on w t n m k st w' r st' w'' r' st'' g h l e =
    record {
      stack = h.stack ∙ e;
      frame = λ i le. h.frame i le ∙ g.frame i (omega (arith, h.up));
      up = omega (arith, g.up, h.up);
      most = omega (arith, g.most, h.most);
    }

-- a cell is pushed, or none
pub grown_push : (w : List ℕ) (t q : ℕ) (b : Bool) → b ≡ true → t < length w → Grown w t 1 (push_if b q (stack_of w t)) (set w t q) (t + 1)
grown_push w t q b e h =
    record { stack = rw e (stack_push w t q h); frame = λ i le. get_or-set_other w t i q 0 (λ (d : i ≡ t). omega arith); up = omega arith; most = omega arith }

pub grown_none : (w : List ℕ) (t n q : ℕ) (b : Bool) → b ≡ false → Grown w t n (push_if b q (stack_of w t)) w t
grown_none w t n q b e = record { stack = rw e refl; frame = λ i le. refl; up = omega arith; most = omega arith }
