-- The stack of a walk never holds more than 7 × cells + 8, of a left click, of a chord, of left to solve and of the total.
use mathlib.Core.Path.{◌≡◌}
use mathlib.Core.Bool.{◌&&◌}
use mathlib.Core.List.{List, [], ◌∷◌}
use Prim.Native.Nat.{ℕ, zero, suc, ◌+◌, ◌*◌, ◌≤◌}
use native.Mathlib.Omega.{arith}
use lib.Dec.{eqb}
use lib.ListN.{length, length-replicate}
use lib.IntN.{ℤ}
use Rattle.rules.specs.Board.{face_at}
use Rattle.rules.specs.Opening.{turns}
use Rattle.rules.specs.Judging.{free_at, unmarked, tally}
use Rattle.cells.proofs.Words.{pick_le}
use Rattle.judging.specs.Highest.{highest, highest_from, highest_of}
use Rattle.judging.proofs.Turns.{stack_next, marks_next, free_count, free_le, cheaper}
use Rattle.judging.proofs.Judging.{tally_long}

module _ (B : List ℤ) (R C : ℕ) (shown : List ℕ) where
  highest_most : (m f : ℕ) (st marks : List ℕ) → length st + 7 * free_count marks ≤ m → highest B R C shown f st marks ≤ m
  unfolding highest
  highest_most m zero st marks h = omega arith
  highest_most m (suc f) [] marks h = omega arith
  highest_most m (suc f) (i ∷ st) marks h =
      let c = cheaper B R C shown i marks st in
      let l : length (i ∷ st) ≤ m = omega arith in
      let r = highest_most m f (stack_next B R C shown i marks st) (marks_next B shown i marks) (omega (arith, c.room)) in
      omega arith

  -- whatever marks it starts with
  pub walk_room : (i : ℕ) (marks : List ℕ) → length marks ≡ R * C → highest_from B R C shown i marks ≤ 7 * (R * C) + 8
  walk_room i marks l = highest_most (7 * (R * C) + 8) (turns (R * C)) (i ∷ []) marks (let m = free_le marks in omega arith)

  -- LEFT
  pub left_room : (i : ℕ) → highest_from B R C shown i (unmarked (R * C)) ≤ 7 * (R * C) + 8
  left_room i = walk_room i (unmarked (R * C)) (length-replicate (R * C) 0)

  -- CHORD, and left to solve and the total, whose cells are some or all of the board
  pub tally_room : (cells : List ℕ) → highest_of B R C shown cells ≤ 7 * (R * C) + 8
  unfolding highest_of
  tally_room [] = omega arith
  tally_room (i ∷ st) =
      let marks = (tally B R C shown st).marks in
      let a = tally_room st in
      let b =
      pick_le (free_at marks i && eqb (face_at B i) 0) (highest_from B R C shown i marks) 0 (7 * (R * C) + 8) (λ e. walk_room i marks (tally_long B R C shown st)) (λ e. omega arith) in
      omega arith
