-- What the parts of the walks require and ensure: the marks above the stack in the lent work, one turn, one walk, one cell judged, the cells of a stack judged.
use Rattle.std.specs.Prelude.{◌≡◌, Bool, true, false, Option, None, Some, List, [], ℕ, ◌+◌, ◌*◌, ◌≤◌, length, set, take, drop, ℤ}
use Rattle.rules.specs.Words.{stack_of}
use Rattle.rules.specs.Grid.{pushed}
use Rattle.rules.specs.Lent.{work_room}
use Rattle.rules.specs.Judging.{free_at, kind, stack_by, marks_by, whole_by, walk_from, judge_one, tally}
use Rattle.cells.specs.Ground.{Mined}
use Rattle.cells.specs.Stack.{Rest}
use Rattle.judging.specs.declared.Sum.{Sum}

-- the stack has the first 7 × cells + 8 entries of the work
abbrev pub stack_room : ℕ → ℕ
stack_room cells = 7 * cells + 8

-- and the marks have the next ones
unfoldable pub marks_of : ℕ → List ℕ → List ℕ
marks_of cells w = take cells (drop (stack_room cells) w)

-- a mine board, and work with room for the stack and the marks
pub record Walkable (B : List ℤ) (work : List ℕ) (R C : ℕ) : Type 0 where
  pub mined : Mined B R C
  pub room : work_room (R * C) ≤ length work

-- where the top stands after a turn, and whether no flag was met: a stop leaves the stack empty
abbrev pub top_of : Option ℕ → ℕ
top_of None = 0
top_of (Some t) = t

abbrev pub unstopped : Option ℕ → Bool
unstopped None = false
unstopped (Some t) = true

-- the cell was taken off the stack of w, whose top is now at t, and worked off: w, t and whole became those with a prime
pub record Stepped (B : List ℤ) (R C : ℕ) (shown : List ℕ) (i t : ℕ) (w : List ℕ) (whole : Bool) (w' : List ℕ) (t' : ℕ) (whole' : Bool) : Type 0 where
  pub stack : stack_of w' t' ≡ stack_by (kind B shown (marks_of (R * C) w) i) (pushed R C (free_at (set (marks_of (R * C) w) i 1)) i 8 (stack_of w t)) (stack_of w t)
  pub marks : marks_of (R * C) w' ≡ marks_by (kind B shown (marks_of (R * C) w) i) (set (marks_of (R * C) w) i 1) (marks_of (R * C) w)
  pub judged : whole' ≡ whole_by (kind B shown (marks_of (R * C) w) i) whole
  pub rest : Rest (work_room (R * C)) w w'

-- a walk was made
pub record Went (B : List ℤ) (R C : ℕ) (shown : List ℕ) (i : ℕ) (w w' : List ℕ) (whole : Bool) : Type 0 where
  pub outcome : walk_from B R C shown i (marks_of (R * C) w) ≡ record { marks = marks_of (R * C) w'; whole = whole }
  pub rest : Rest (work_room (R * C)) w w'

-- one cell was judged; where no walk was made, the work is as it was
pub record Judged (B : List ℤ) (R C : ℕ) (shown : List ℕ) (q : ℕ) (w : List ℕ) (sum : Sum) (w' : List ℕ) (sum' : Sum) : Type 0 where
  pub outcome : judge_one B R C shown q (record { count = sum.count; marks = marks_of (R * C) w }) ≡ record { count = sum'.count; marks = marks_of (R * C) w' }
  pub rest : Rest (work_room (R * C)) w w'
  pub still : sum'.walked ≡ false → (sum.walked ≡ false) × (w' ≡ w)

-- one cell was judged by a walk that is shown nothing, if it was due; else nothing changed
pub record JudgedIf (due : Bool) (B : List ℤ) (R C q : ℕ) (w : List ℕ) (sum : Sum) (w' : List ℕ) (sum' : Sum) : Type 0 where
  pub yes : due ≡ true → Judged B R C [] q w sum w' sum'
  pub no : due ≡ false → (w' ≡ w) × (sum' ≡ sum)

-- the cells of a stack were judged
pub record Tallied (B : List ℤ) (R C : ℕ) (shown st w w' : List ℕ) (sum : Sum) : Type 0 where
  pub outcome : tally B R C shown st ≡ record { count = sum.count; marks = marks_of (R * C) w' }
  pub rest : Rest (work_room (R * C)) w w'
  pub long : length w' ≡ length w
  pub still : sum.walked ≡ false → w' ≡ w
