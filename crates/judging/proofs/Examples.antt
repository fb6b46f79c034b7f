-- Boards that tell the walks from their look-alikes.
use mathlib.Core.Path.{◌≡◌, refl}
use mathlib.Core.List.{[], ◌∷◌}
use lib.IntN.{pos, negsuc}
use Rattle.rules.specs.Words.{count}
use Rattle.rules.specs.Grid.{ninth, cell_before, neighbour, around, cells_if, pushed}
use Rattle.rules.specs.Board.{zero_at, lone_at}
use Rattle.rules.specs.Judging.{free_at, kind, walk, walk_from, judge_one, tally, openings_judged, lones, bv_of, total3bv, not_open_at, left_to_solve}

-- 1 × 4, no mines, 11 10 0 10, chord at (0,2): none is counted; first in, first out would count one
last_first : openings_judged (pos 0 ∷ pos 0 ∷ pos 0 ∷ pos 0 ∷ []) 1 4 (11 ∷ 10 ∷ 0 ∷ 10 ∷ []) (3 ∷ 1 ∷ []) ≡ 0
unfolding neighbour cell_before ninth free_at pushed kind walk walk_from judge_one tally openings_judged
last_first = refl

-- 2 × 3, no mines, 11 10 10 / 0 0 0, chord at (1,2): one is counted; whole openings, or marks of its own for each walk, would count none
shared_marks : openings_judged (pos 0 ∷ pos 0 ∷ pos 0 ∷ pos 0 ∷ pos 0 ∷ pos 0 ∷ []) 2 3 (11 ∷ 10 ∷ 10 ∷ 0 ∷ 0 ∷ 0 ∷ []) (2 ∷ 1 ∷ []) ≡ 1
unfolding neighbour cell_before ninth free_at pushed kind walk walk_from judge_one tally openings_judged
shared_marks = refl

-- 3 × 3 with a mine in the corner: one opening, and no number without a 0 neighbour
corner : total3bv (pos 0 ∷ pos 0 ∷ pos 0 ∷ pos 0 ∷ pos 1 ∷ pos 1 ∷ pos 0 ∷ pos 1 ∷ negsuc 0 ∷ []) 3 3 ≡ 1
unfolding neighbour cell_before ninth count around zero_at lone_at free_at pushed kind walk walk_from judge_one tally openings_judged lones cells_if bv_of total3bv
corner = refl

-- 1 × 3, mine in the middle: two numbers
middle : total3bv (pos 1 ∷ negsuc 0 ∷ pos 1 ∷ []) 1 3 ≡ 2
unfolding neighbour cell_before ninth count around zero_at lone_at free_at pushed kind walk walk_from judge_one tally openings_judged lones cells_if bv_of total3bv
middle = refl

-- 1 × 5, no mines, 10 0 11 0 17: one opening is left; walks over cells not open would count three, and walks that a flag stops none
across : left_to_solve (pos 0 ∷ pos 0 ∷ pos 0 ∷ pos 0 ∷ pos 0 ∷ []) 1 5 (10 ∷ 0 ∷ 11 ∷ 0 ∷ 17 ∷ []) ≡ 1
unfolding neighbour cell_before ninth count around zero_at lone_at free_at pushed kind walk walk_from judge_one tally openings_judged lones cells_if bv_of not_open_at left_to_solve
across = refl

-- 1 × 5, mine in the middle, 11 1 10 1 10: two openings are left
both_sides : left_to_solve (pos 0 ∷ pos 1 ∷ negsuc 0 ∷ pos 1 ∷ pos 0 ∷ []) 1 5 (11 ∷ 1 ∷ 10 ∷ 1 ∷ 10 ∷ []) ≡ 2
unfolding neighbour cell_before ninth count around zero_at lone_at free_at pushed kind walk walk_from judge_one tally openings_judged lones cells_if bv_of not_open_at left_to_solve
both_sides = refl
