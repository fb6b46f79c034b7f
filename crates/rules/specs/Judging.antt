-- Openings judged: the walk of a left click and the walks of a chord, the 3BV total, and left to solve.
-- An opening is 0 cells joined over eight neighbours. A walk stacks unmarked neighbours in row order and takes the last first.
-- It stops with no count at a 0 cell showing 11, keeping marks made so far.
use Rattle.std.specs.Prelude.{Bool, true, false, ◌&&◌, ◌||◌, List, [], ◌∷◌, ℕ, zero, suc, ◌+◌, ◌*◌, ltb, leb, eqb, length, get_or, set, replicate, ℤ}
use Rattle.rules.specs.Words.{pick, bit}
use Rattle.rules.specs.Grid.{cells_if, pushed}
use Rattle.rules.specs.Board.{face_at, lone_at}
use Rattle.rules.specs.Opening.{turns}

-- a cell of the board without a mark
unfoldable pub free_at : List ℕ → ℕ → Bool
free_at marks i = ltb i (length marks) && eqb (get_or marks i 0) 0

-- what a walk does with a cell that it takes off the stack
pub data Kind : Type 0 where
  pass : Kind
  stop : Kind
  mark : Kind

-- a marked cell and a number are passed by, a 0 showing 11 stops the walk, any other 0 is marked
unfoldable pub kind : List ℤ → List ℕ → List ℕ → ℕ → Kind
kind B shown marks i = pick (free_at marks i && eqb (face_at B i) 0) (pick (eqb (get_or shown i 0) 11) stop mark) pass

abbrev pub stack_by : Kind → List ℕ → List ℕ → List ℕ
stack_by pass more st = st
stack_by stop more st = []
stack_by mark more st = more

abbrev pub marks_by : Kind → List ℕ → List ℕ → List ℕ
marks_by pass more marks = marks
marks_by stop more marks = marks
marks_by mark more marks = more

abbrev pub whole_by : Kind → Bool → Bool
whole_by pass whole = whole
whole_by stop whole = false
whole_by mark whole = whole

pub record Walked : Type 0 where
  pub marks : List ℕ
  pub whole : Bool

-- the stack is walked off, in at most so many turns; a stop leaves it empty
unfoldable pub walk : List ℤ → ℕ → ℕ → List ℕ → ℕ → List ℕ → List ℕ → Bool → Walked
walk B R C shown zero st marks whole = record { marks = marks; whole = whole }
walk B R C shown (suc f) [] marks whole = record { marks = marks; whole = whole }
walk B R C shown (suc f) (i ∷ st) marks whole =
    walk B R C shown f
    (stack_by (kind B shown marks i) (pushed R C (free_at (set marks i 1)) i 8 st) st)
    (marks_by (kind B shown marks i) (set marks i 1) marks)
    (whole_by (kind B shown marks i) whole)

-- a walk from one cell (`cell_is_op_completed`)
unfoldable pub walk_from : List ℤ → ℕ → ℕ → List ℕ → ℕ → List ℕ → Walked
walk_from B R C shown i marks = walk B R C shown (turns (R * C)) (i ∷ []) marks true

abbrev pub unmarked : ℕ → List ℕ
unmarked cells = replicate cells 0

-- LEFT: the opening of a 0 has no cell showing 11
unfoldable pub judged_left : List ℤ → ℕ → ℕ → List ℕ → ℕ → Bool
judged_left B R C shown i = (walk_from B R C shown i (unmarked (R * C))).whole

-- how many openings were counted, and the marks of all the walks
pub record Tally : Type 0 where
  pub count : ℕ
  pub marks : List ℕ

abbrev pub counted : ℕ → Walked → Tally
counted n w = record { count = n + bit w.whole; marks = w.marks }

-- a walk starts at a 0 without a mark
unfoldable pub judge_one : List ℤ → ℕ → ℕ → List ℕ → ℕ → Tally → Tally
judge_one B R C shown i t = pick (free_at t.marks i && eqb (face_at B i) 0) (counted t.count (walk_from B R C shown i t.marks)) t

-- the cells of a stack, from its bottom up, with one set of marks
unfoldable pub tally : List ℤ → ℕ → ℕ → List ℕ → List ℕ → Tally
tally B R C shown [] = record { count = 0; marks = unmarked (R * C) }
tally B R C shown (i ∷ st) = judge_one B R C shown i (tally B R C shown st)

-- CHORD: the openings newly judged among the closed neighbours (`op_num_around_cell`)
unfoldable pub openings_judged : List ℤ → ℕ → ℕ → List ℕ → List ℕ → ℕ
openings_judged B R C shown cells = (tally B R C shown cells).count

-- the numbers without a 0 neighbour among the cells of a stack
unfoldable pub lones : List ℤ → ℕ → ℕ → List ℕ → ℕ
lones B R C [] = 0
lones B R C (i ∷ st) = lones B R C st + bit (lone_at B R C i)

-- the openings with a 0 that passes a test, plus the numbers without a 0 neighbour that pass it; the walks are shown nothing, so none stops
unfoldable pub bv_of : List ℤ → ℕ → ℕ → (ℕ → Bool) → ℕ
bv_of B R C due = openings_judged B R C [] (cells_if due (R * C)) + lones B R C (cells_if due (R * C))

-- 3BV total: openings plus numbers without a 0 neighbour
unfoldable pub total3bv : List ℤ → ℕ → ℕ → ℕ
total3bv B R C = bv_of B R C (λ i. true)

-- not open: not showing 0 to 8; where nothing is shown, nothing is open
unfoldable pub not_open_at : List ℕ → ℕ → Bool
not_open_at shown i = leb (length shown) i || ltb 8 (get_or shown i 0)

-- left to solve: openings with at least one 0 cell not open, plus numbers without a 0 neighbour not open
unfoldable pub left_to_solve : List ℤ → ℕ → ℕ → List ℕ → ℕ
left_to_solve B R C shown = bv_of B R C (not_open_at shown)
