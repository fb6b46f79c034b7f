-- The writer's examples, computed by the checker over the definitions; and the reader's room. The reader's others are run (pictures/readings).
use mathlib.Core.Path.{◌≡◌, refl}
use mathlib.Core.List.{List, [], ◌∷◌}
use Prim.Native.Nat.{ℕ}
use lib.Dec.{eqb}
use lib.ListN.{length, drop, replicate}
use borrow.Author.Tests.{eq-eqb}
use Rattle.rules.specs.Words.{every}
use Rattle.rules.specs.Grid.{size_ok}
use Rattle.rules.specs.Printout.{digits}
use Rattle.rules.specs.Picture.{is_shown, all_shown, shown_refusal, number_lines, plain_form, byte_room, draw_by, draw_of, read_refusal}

-- worked.book ends with 1 × 3 showing 1, 11, 1: `P2`, 3, 1, 17, 1, 11, 1, each on its line
pub worked : plain_form 1 3 (1 ∷ 11 ∷ 1 ∷ []) ≡ 80 ∷ 50 ∷ 10 ∷ 51 ∷ 10 ∷ 49 ∷ 10 ∷ 49 ∷ 55 ∷ 10 ∷ 49 ∷ 10 ∷ 49 ∷ 49 ∷ 10 ∷ 49 ∷ 10 ∷ []
unfolding plain_form number_lines digits
worked = refl

-- a board in a room of so many bytes
refusal_in : ℕ → ℕ → ℕ → List ℕ → ℕ
refusal_in room R C shown = shown_refusal R C shown (eqb room byte_room)

-- 0 rows; another length of the board; a room of 6,155 or 6,157 bytes; a 9, 12, 13, 16 or 18 among the cells; and a board without a fault
pub refusals : List ℕ
refusals =
    refusal_in 6156 0 3 (1 ∷ 11 ∷ 1 ∷ []) ∷ refusal_in 6156 1 3 (1 ∷ 11 ∷ []) ∷ refusal_in 6156 1 3 (1 ∷ 11 ∷ 1 ∷ 1 ∷ []) ∷ refusal_in 6155 1 3 (1 ∷ 11 ∷ 1 ∷ [])
    ∷ refusal_in 6157 1 3 (1 ∷ 11 ∷ 1 ∷ []) ∷ refusal_in 6156 1 3 (1 ∷ 9 ∷ 1 ∷ []) ∷ refusal_in 6156 1 3 (12 ∷ 11 ∷ 1 ∷ []) ∷ refusal_in 6156 1 3 (1 ∷ 11 ∷ 13 ∷ [])
    ∷ refusal_in 6156 1 3 (1 ∷ 16 ∷ 1 ∷ []) ∷ refusal_in 6156 1 3 (1 ∷ 11 ∷ 18 ∷ []) ∷ refusal_in 6156 1 3 (1 ∷ 11 ∷ 1 ∷ []) ∷ []

pub refused : refusals ≡ 20 ∷ 21 ∷ 21 ∷ 21 ∷ 21 ∷ 261 ∷ 261 ∷ 261 ∷ 261 ∷ 261 ∷ 0 ∷ []
unfolding refusals refusal_in shown_refusal all_shown is_shown every size_ok
refused = refl

-- 64 × 32 with every cell 10 fills 6,156 bytes exactly
pub fills : length (plain_form 64 32 (replicate 2048 10)) ≡ byte_room
unfolding plain_form number_lines digits
fills = refl

-- 1 × 1 showing 0 leaves the bytes from 12 on as they were
pub leaves : (out : List ℕ) → length out ≡ byte_room → drop 12 (draw_of 1 1 (0 ∷ []) out).out ≡ drop 12 out
unfolding draw_of draw_by shown_refusal all_shown is_shown every size_ok plain_form number_lines digits
leaves out e = simp (eq-eqb (length out) byte_room e)

-- the reader with room for 2,047 cells: 21, whatever the bytes are
pub unfit : (s room : List ℕ) → length room ≡ 2047 → read_refusal s room ≡ 21
unfolding read_refusal
unfit s room e = simp (e)
