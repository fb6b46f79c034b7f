-- The marks that are kept in the work above the stack, and pushes below them.
use mathlib.Core.Path.{◌≡◌, refl, sym, ◌∙◌}
use mathlib.Core.Bool.{Bool, true, false}
use mathlib.Core.List.{List}
use Prim.Native.Nat.{ℕ, ◌+◌, ◌*◌, ◌/◌, ◌%◌, ◌<◌, ◌≤◌}
use native.Mathlib.Omega.{arith}
use native.Mathlib.Numerals.{add-one}
use borrow.Author.Tests.{lt-ltb, le-ltb, eqb-true, eqb-false}
use lib.Dec.{eqb, ltb}
use lib.ListN.{length, get_or, set, length-set, length-take, length-drop, length-replicate, get_or-replicate}
use lib.Seq.{get_or-set_same, get_or-set_other, get_or-take, get_or-drop, ext_get_or}
use Rattle.rules.specs.Words.{stack_of}
use Rattle.rules.specs.Grid.{neighbour, cell_before, ninth, push_if, pushed}
use Rattle.rules.specs.Lent.{work_room}
use Rattle.rules.specs.Judging.{free_at, unmarked}
use Rattle.cells.specs.Ground.{Zeros}
use Rattle.cells.specs.Stack.{Rest, Grown}
use Rattle.cells.proofs.Stack.{grown_on}
use Rattle.judging.specs.Parts.{stack_room, marks_of}
use Rattle.judging.proofs.Turns.{free_fact}

-- ---- the marks -----------------------------------------------------------------------------------------------------------------------

pub marks_length : (cells : ℕ) (w : List ℕ) → work_room cells ≤ length w → length (marks_of cells w) ≡ cells
unfolding marks_of
marks_length cells w room = simp (length-take, length-drop) (omega arith)

pub marks_at : (cells : ℕ) (w : List ℕ) (i : ℕ) → i < cells → get_or (marks_of cells w) i 0 ≡ get_or w (stack_room cells + i) 0
unfolding marks_of
marks_at cells w i h = rw (get_or-take, get_or-drop)

module _ (cells : ℕ) (w : List ℕ) (room : work_room cells ≤ length w) where
  -- nothing from r on changed
  pub marks_frame : (w' : List ℕ) (r : ℕ) → r ≤ stack_room cells → Rest r w w' → length w' ≡ length w → marks_of cells w' ≡ marks_of cells w
  marks_frame w' r h f l =
      let e = marks_length cells w' (rw l room) in
      ext_get_or 0 (marks_of cells w') (marks_of cells w) (e ∙ sym (marks_length cells w room))
      (λ i lt. let k : i < cells = rw e at lt in marks_at cells w' i k ∙ f (stack_room cells + i) (omega arith) ∙ sym (marks_at cells w i k))

  -- one mark more
  pub marks_set : (q : ℕ) → q < cells → marks_of cells (set w (stack_room cells + q) 1) ≡ set (marks_of cells w) q 1
  marks_set q h =
      let room' : work_room cells ≤ length (set w (stack_room cells + q) 1) = simp length-set room in
      let e = marks_length cells (set w (stack_room cells + q) 1) room' in
      ext_get_or 0 (marks_of cells (set w (stack_room cells + q) 1)) (set (marks_of cells w) q 1) (e ∙ sym (marks_length cells w room) ∙ sym (length-set (marks_of cells w) q 1))
      (λ i lt. let k : i < cells = rw e at lt in marks_at cells (set w (stack_room cells + q) 1) i k ∙ go i k (eqb i q) refl)
    where
      go : (i : ℕ) → i < cells → (b : Bool) → eqb i q ≡ b → get_or (set w (stack_room cells + q) 1) (stack_room cells + i) 0 ≡ get_or (set (marks_of cells w) q 1) i 0
      go i k true e =
          rw (eqb-true i q e) (get_or-set_same w (stack_room cells + q) 1 0 (omega arith) ∙ sym (get_or-set_same (marks_of cells w) q 1 0 (rw (marks_length cells w room) h)))
      go i k false e =
          let n = eqb-false i q e in
          get_or-set_other w (stack_room cells + q) (stack_room cells + i) 1 0 (λ (d : stack_room cells + i ≡ stack_room cells + q). n (omega arith))
          ∙ sym (marks_at cells w i k) ∙ sym (get_or-set_other (marks_of cells w) q i 1 0 n)

  -- a work of zeros has no mark
  pub marks_none : Zeros (work_room cells) w → marks_of cells w ≡ unmarked cells
  marks_none z =
      let l = marks_length cells w room in
      ext_get_or 0 (marks_of cells w) (unmarked cells) (l ∙ sym (length-replicate cells 0))
      (λ i lt. let k : i < cells = rw l at lt in marks_at cells w i k ∙ z (stack_room cells + i) (omega arith) ∙ sym (get_or-replicate cells i 0 0 k))

  pub free_on : (q : ℕ) → q < cells → eqb (get_or w (stack_room cells + q) 0) 0 ≡ free_at (marks_of cells w) q
  unfolding free_at
  free_on q h = rw (marks_length cells w room, marks_at cells w q h, lt-ltb q cells h)

  pub free_off : (q : ℕ) → cells ≤ q → ltb q cells ≡ free_at (marks_of cells w) q
  unfolding free_at
  free_off q h = rw (marks_length cells w room, le-ltb q cells h)

  -- a cell without a mark in the work is a cell
  pub free_cell : (q : ℕ) → free_at (marks_of cells w) q ≡ true → q < cells
  free_cell q e = rw (marks_length cells w room) at (free_fact (marks_of cells w) q e).0

-- ---- pushes --------------------------------------------------------------------------------------------------------------------------

-- one neighbour more
pub grown_more : (R C i k : ℕ) (w : List ℕ) (t : ℕ) (w' : List ℕ) (r : ℕ) (w'' : List ℕ) (r' q : ℕ)
    → work_room (R * C) ≤ length w → length w' ≡ length w → t + k ≤ stack_room (R * C)
    → Grown w t k (pushed R C (free_at (marks_of (R * C) w)) i k (stack_of w t)) w' r
    → q ≡ neighbour R C i k
    → Grown w' r 1 (push_if (free_at (marks_of (R * C) w') q) q (stack_of w' r)) w'' r'
    → Grown w t (k + 1) (pushed R C (free_at (marks_of (R * C) w)) i (k + 1) (stack_of w t)) w'' r'
unfolding pushed
grown_more R C i k w t w' r w'' r' q room l low g e h =
    let m : marks_of (R * C) w' ≡ marks_of (R * C) w = marks_frame (R * C) w room w' r (omega (arith, g.most)) g.frame l in
    grown_on w t k 1 (k + 1) (pushed R C (free_at (marks_of (R * C) w)) i k (stack_of w t)) w' r (push_if (free_at (marks_of (R * C) w') q) q (stack_of w' r)) w'' r'
    (pushed R C (free_at (marks_of (R * C) w)) i (k + 1) (stack_of w t)) g h (omega arith) (rw add-one cc)

-- a cell's neighbour, by its row and column
pub neighbour_of : (R C i k : ℕ) {q : ℕ} → q ≡ cell_before R C (i / C + ninth k / 3) (i % C + ninth k % 3) → q ≡ neighbour R C i k
unfolding neighbour
neighbour_of R C i k e = e
