-- Walks put together: the work is given back, and the walks of a chord or of a whole board share their marks; left to solve, and the total.
use mathlib.Core.Path.{◌≡◌, refl, ap, ap₂, sym, ◌∙◌}
use mathlib.Core.Bool.{Bool, true, false, true≢false}
use mathlib.Core.List.{List, [], ◌∷◌, ◌++◌}
use Prim.Native.Nat.{ℕ, ◌+◌, ◌-◌, ◌*◌, ◌≤◌}
use native.Mathlib.Omega.{arith}
use native.Mathlib.Numerals.{add-one}
use borrow.Author.Tests.{ltb-true, ltb-false}
use lib.Dec.{ltb}
use lib.ListN.{length, get_or, drop, replicate, get_or-append, length-replicate, get_or-replicate}
use lib.Seq.{ext_get_or, get_or-append-add, get_or-drop}
use lib.IntN.{ℤ}
use Rattle.rules.specs.Words.{bit, stack_of}
use Rattle.rules.specs.Grid.{push_if, cells_if}
use Rattle.rules.specs.Board.{face_at}
use Rattle.rules.specs.Lent.{work_room}
use Rattle.rules.specs.Judging.{free_at, walk_from, judged_left, Walked, Tally, counted, judge_one, tally, openings_judged, lones, bv_of, not_open_at, left_to_solve}
use Rattle.cells.specs.Ground.{Zeros}
use Rattle.cells.proofs.Words.{stack_length}
use Rattle.judging.specs.declared.Sum.{Sum}
use Rattle.cells.specs.Stack.{Rest}
use Rattle.judging.specs.Parts.{marks_of, Went, Judged, JudgedIf, Tallied}
use Rattle.lones.specs.Counts.{LoneRow}
use Rattle.judging.proofs.Marks.{marks_none}
use Rattle.judging.proofs.Judging.{judge_marked, judge_number, judge_zero, judged_length, cells_length}

-- ---- the work is given back ----------------------------------------------------------------------------------------------------------

past : (n : ℕ) (w : List ℕ) (i : ℕ) → n ≤ i → get_or (replicate n 0 ++ drop n w) i 0 ≡ get_or w i 0
past n w i h =
    let e : i ≡ length (replicate {A = ℕ} n 0) + (i - n) = rw (length-replicate {0} {A = ℕ} n 0) (omega arith) in
    ap (λ (j : ℕ). get_or (replicate n 0 ++ drop n w) j 0) e ∙ get_or-append-add (replicate n 0) (drop n w) (i - n) 0 ∙ get_or-drop n w (i - n) 0
    ∙ ap (λ (j : ℕ). get_or w j 0) (let d : n + (i - n) ≡ i = omega arith in d)

-- cleared, the work is as it was
pub cleared : (n : ℕ) (w w' w'' : List ℕ) → Zeros n w → Rest n w w' → length w' ≡ length w → w'' ≡ replicate n 0 ++ drop n w' → length w'' ≡ length w' → w'' ≡ w
cleared n w w' w'' z r l e k = ext_get_or 0 w'' w (k ∙ l) (λ i lt. go i (ltb i n) refl)
  where
    go : (i : ℕ) (b : Bool) → ltb i n ≡ b → get_or w'' i 0 ≡ get_or w i 0
    go i true d = let m = ltb-true i n d in rw e (get_or-append (replicate n 0) (drop n w') 0 i (rw (length-replicate {0} {A = ℕ} n 0) m) ∙ get_or-replicate n i 0 0 m) ∙ sym (z i m)
    go i false d = let m = ltb-false i n d in rw e (past n w' i m) ∙ r i m

-- ---- a left click --------------------------------------------------------------------------------------------------------------------

pub judged_left_lem : (B : List ℤ) (R C : ℕ) (shown : List ℕ) (i : ℕ) (w w' : List ℕ) (whole : Bool) → work_room (R * C) ≤ length w → Zeros (work_room (R * C)) w
    → Went B R C shown i w w' whole → whole ≡ judged_left B R C shown i
unfolding judged_left
judged_left_lem B R C shown i w w' whole room z g =
    sym (ap (λ (x : Walked). x.whole) (ap (walk_from B R C shown i) (sym (marks_none (R * C) w room z)) ∙ g.outcome))

-- ---- one cell judged -----------------------------------------------------------------------------------------------------------------

module _ (B : List ℤ) (R C : ℕ) (shown : List ℕ) (q : ℕ) (w : List ℕ) (sum : Sum) where
  abbrev so_far : Tally
  so_far = record { count = sum.count; marks = marks_of (R * C) w }

  pub judged_marked : free_at (marks_of (R * C) w) q ≡ false → Judged B R C shown q w sum w sum
  judged_marked e = record { outcome = judge_marked B R C shown q so_far e; rest = λ i le. refl; still = λ d. (d, refl) }

  pub judged_number : (v : ℕ) → v ≡ face_at B q → (v ≡ 0 → ⊥) → Judged B R C shown q w sum w sum
  judged_number v f n = record { outcome = judge_number B R C shown q so_far (λ z. n (f ∙ z)); rest = λ i le. refl; still = λ d. (d, refl) }

  pub judged_walk : free_at (marks_of (R * C) w) q ≡ true → (v : ℕ) → v ≡ face_at B q → v ≡ 0 → (w' : List ℕ) (whole b : Bool) → Went B R C shown q w w' whole → whole ≡ b
      → (n : ℕ) → n ≡ sum.count + bit b → Judged B R C shown q w sum w' (record { count = n; walked = true })
  judged_walk e v f z w' whole b g d n k =
      record {
        outcome =
            judge_zero B R C shown q so_far e (sym f ∙ z) ∙ ap (counted sum.count) g.outcome
            ∙ ap (λ (x : ℕ). record { count = x; marks = marks_of (R * C) w' }) (ap (λ (x : Bool). sum.count + bit x) d ∙ sym k);
        rest = g.rest;
        still = λ y. absurd (true≢false y);
      }

-- ---- the cells of a stack judged -----------------------------------------------------------------------------------------------------

module _ (B : List ℤ) (R C : ℕ) (shown w : List ℕ) where
  tallied_none : work_room (R * C) ≤ length w → Zeros (work_room (R * C)) w → Tallied B R C shown [] w w (record { count = 0; walked = false })
  unfolding tally
  tallied_none room z =
      record { outcome = ap (λ (a : List ℕ). record { count = 0; marks = a }) (sym (marks_none (R * C) w room z)); rest = λ i le. refl; long = refl; still = λ e. refl }

  tallied_more : (st w' : List ℕ) (sum : Sum) (q : ℕ) (w'' : List ℕ) (sum' : Sum) → Tallied B R C shown st w w' sum
      → Judged B R C shown q w' sum w'' sum' → length w'' ≡ length w' → Tallied B R C shown (q ∷ st) w w'' sum'
  unfolding tally
  tallied_more st w' sum q w'' sum' t j l =
      record {
        outcome = ap (judge_one B R C shown q) t.outcome ∙ j.outcome;
        rest = λ i le. j.rest i le ∙ t.rest i le;
        long = l ∙ t.long;
        still = λ d. let r = j.still d in r.1 ∙ t.still r.0;
      }

  -- a chord's cells, one after the other
  pub chord_none : (at : List ℕ) → work_room (R * C) ≤ length w → Zeros (work_room (R * C)) w → Tallied B R C shown (stack_of at 0) w w (record { count = 0; walked = false })
  unfolding stack_of
  chord_none at room z = tallied_none room z

  pub chord_more_lem : (at : List ℕ) (k : ℕ) (w' : List ℕ) (sum : Sum) (q : ℕ) (w'' : List ℕ) (sum' : Sum) → q ≡ get_or at k 0 → Tallied B R C shown (stack_of at k) w w' sum
      → Judged B R C shown q w' sum w'' sum' → length w'' ≡ length w' → Tallied B R C shown (stack_of at (k + 1)) w w'' sum'
  unfolding stack_of
  chord_more_lem at k w' sum q w'' sum' e t j l =
      rw (add-one, ← e) (tallied_more (stack_of at k) w' sum q w'' sum' t j l)

-- what was counted
pub tallied_count : (B : List ℤ) (R C : ℕ) (shown st w w' : List ℕ) (sum : Sum) → Tallied B R C shown st w w' sum → sum.count ≡ openings_judged B R C shown st
unfolding openings_judged
tallied_count B R C shown st w w' sum t = sym (ap (λ (x : Tally). x.count) t.outcome)

tallied_few : (B : List ℤ) (R C : ℕ) (shown st w w' : List ℕ) (sum : Sum) → Tallied B R C shown st w w' sum → sum.count ≤ length st
tallied_few B R C shown st w w' sum t = let a = tallied_count B R C shown st w w' sum t in omega (arith, judged_length B R C shown st)

pub chord_few : (B : List ℤ) (R C : ℕ) (shown at : List ℕ) (k : ℕ) (w w' : List ℕ) (sum : Sum) → Tallied B R C shown (stack_of at k) w w' sum → sum.count ≤ k
chord_few B R C shown at k w w' sum t = rw (stack_length at k) at (tallied_few B R C shown (stack_of at k) w w' sum t)

-- ---- those of the board's cells that pass a test -------------------------------------------------------------------------------------

module _ (B : List ℤ) (R C : ℕ) (due : ℕ → Bool) (w : List ℕ) where
  pub board_none : work_room (R * C) ≤ length w → Zeros (work_room (R * C)) w → Tallied B R C [] (cells_if due 0) w w (record { count = 0; walked = false })
  unfolding cells_if
  board_none room z = tallied_none B R C [] w room z

  -- one cell more
  pub board_more : (k : ℕ) (w' : List ℕ) (sum : Sum) (w'' : List ℕ) (sum' : Sum) → Tallied B R C [] (cells_if due k) w w' sum
      → JudgedIf (due k) B R C k w' sum w'' sum' → length w'' ≡ length w' → Tallied B R C [] (cells_if due (k + 1)) w w'' sum'
  unfolding cells_if
  board_more k w' sum w'' sum' t j l = rw add-one (go (due k) refl)
    where
      go : (b : Bool) → due k ≡ b → Tallied B R C [] (push_if b k (cells_if due k)) w w'' sum'
      go true e = tallied_more B R C [] w (cells_if due k) w' sum k w'' sum' t (j.yes e) l
      go false e = let n = j.no e in rw (n.0, n.1) t

  pub board_few : (k : ℕ) (w' : List ℕ) (sum : Sum) → Tallied B R C [] (cells_if due k) w w' sum → sum.count ≤ k
  board_few k w' sum t = let a = tallied_few B R C [] (cells_if due k) w w' sum t in omega (arith, cells_length due k)

-- a cell that is open, and one that is not
module _ {t b : Bool} (e : b ≡ t) (B : List ℤ) (R C q : ℕ) (w : List ℕ) (sum : Sum) where
  pub judged_open : b ≡ false → JudgedIf t B R C q w sum w sum
  judged_open d = record { yes = λ y. absurd (true≢false (sym y ∙ sym e ∙ d)); no = λ n. (refl, refl) }

  pub judged_due : b ≡ true → (w' : List ℕ) (sum' : Sum) → Judged B R C [] q w sum w' sum' → JudgedIf t B R C q w sum w' sum'
  judged_due d w' sum' j = record { yes = λ y. j; no = λ n. absurd (true≢false (sym d ∙ e ∙ n)) }

-- ---- left to solve -------------------------------------------------------------------------------------------------------------------

module _ (B : List ℤ) (R C : ℕ) (shown : List ℕ) where
  none : lones B R C (cells_if (not_open_at shown) 0) ≡ 0
  unfolding lones cells_if
  none = refl

  -- from its two counts
  pub left_is : (w w' : List ℕ) (sum : Sum) (numbers : ℕ) → Tallied B R C [] (cells_if (not_open_at shown) (R * C)) w w' sum → LoneRow B R C (not_open_at shown) 0 (R * C) numbers
      → sum.count + numbers ≡ left_to_solve B R C shown
  unfolding bv_of left_to_solve
  left_is w w' sum numbers t l = ap₂ (λ (x y : ℕ). x + y) (tallied_count B R C [] (cells_if (not_open_at shown) (R * C)) w w' sum t) whole
    where
      whole : numbers ≡ lones B R C (cells_if (not_open_at shown) (R * C))
      whole =
          let z : 0 + R * C ≡ R * C = omega arith in
          let a : lones B R C (cells_if (not_open_at shown) 0) + numbers ≡ lones B R C (cells_if (not_open_at shown) (R * C)) = l.answer ∙ ap (λ (n : ℕ). lones B R C (cells_if (not_open_at shown) n)) z in
          omega (arith, none)
