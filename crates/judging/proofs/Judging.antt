-- What judging counts: at most one for a safe cell and none for a mine, as an opening or as a lone number; and the marks keep their length.
use mathlib.Core.Path.{◌≡◌, refl, ◌∙◌}
use mathlib.Core.Bool.{Bool, true, false, ◌&&◌, not}
use mathlib.Core.List.{List, [], ◌∷◌}
use Prim.Native.Nat.{ℕ, zero, suc, ◌+◌, ◌*◌, ◌≤◌}
use native.Mathlib.Omega.{arith}
use borrow.Author.Tests.{eq-eqb, ne_eqb, eqb-true, eqb-false}
use lib.Dec.{eqb}
use lib.ListN.{length, set, length-set, length-replicate}
use lib.IntN.{ℤ}
use Rattle.rules.specs.Words.{pick, bit}
use Rattle.rules.specs.Grid.{push_if, cells_if}
use Rattle.rules.specs.Board.{face_at, lone_at}
use Rattle.rules.specs.Opening.{turns}
use Rattle.rules.specs.Judging.{free_at, Kind, pass, stop, mark, kind, walk, walk_from, Tally, counted, judge_one, tally, openings_judged, lones, bv_of, total3bv, not_open_at, left_to_solve}
use Rattle.judging.specs.Joining.{among, safe_at}
use Rattle.cells.proofs.Words.{bit_le}
use Rattle.lones.proofs.Lones.{lone_zero, lone_mine}
use Rattle.judging.proofs.Turns.{walk_zero, walk_nil, walk_pass, walk_stop, walk_mark}

-- ---- one cell ------------------------------------------------------------------------------------------------------------------------

module _ (B : List ℤ) (R C : ℕ) (shown : List ℕ) (i : ℕ) (t : Tally) where
  pub judge_marked : free_at t.marks i ≡ false → judge_one B R C shown i t ≡ t
  unfolding judge_one
  judge_marked e = simp e

  pub judge_number : (face_at B i ≡ 0 → ⊥) → judge_one B R C shown i t ≡ t
  unfolding judge_one
  judge_number n = go (free_at t.marks i)
    where
      go : (b : Bool) → pick (b && eqb (face_at B i) 0) (counted t.count (walk_from B R C shown i t.marks)) t ≡ t
      go true = simp (ne_eqb _ _ n)
      go false = refl

  pub judge_zero : free_at t.marks i ≡ true → face_at B i ≡ 0 → judge_one B R C shown i t ≡ counted t.count (walk_from B R C shown i t.marks)
  unfolding judge_one
  judge_zero e z = simp (e, eq-eqb _ _ z)

  -- a 0 counts for one at most, and nothing else counts
  pub judge_adds : (judge_one B R C shown i t).count ≤ t.count + bit (eqb (face_at B i) 0)
  judge_adds = go (free_at t.marks i) (eqb (face_at B i) 0) refl refl
    where
      go : (a b : Bool) → free_at t.marks i ≡ a → eqb (face_at B i) 0 ≡ b → (judge_one B R C shown i t).count ≤ t.count + bit b
      go true true e f = rw (judge_zero e (eqb-true _ _ f)) (let o = bit_le (walk_from B R C shown i t.marks).whole in omega arith)
      go false true e f = rw (judge_marked e) (omega arith)
      go a false e f = rw (judge_number (eqb-false _ _ f)) (omega arith)

module _ (B : List ℤ) (R C i : ℕ) where
  -- a cell is an opening's 0, a number or a mine
  pub lone_adds : bit (eqb (face_at B i) 0) + bit (lone_at B R C i) ≤ bit (safe_at B i)
  lone_adds = go (eqb (face_at B i) 0) (eqb (face_at B i) 15) refl refl
    where
      go : (a b : Bool) → eqb (face_at B i) 0 ≡ a → eqb (face_at B i) 15 ≡ b → bit a + bit (lone_at B R C i) ≤ bit (not b)
      go true true e f = let d : face_at B i ≡ 0 = eqb-true _ _ e in let g : face_at B i ≡ 15 = eqb-true _ _ f in absurd (omega arith)
      go true false e f = rw (lone_zero B R C i (eqb-true _ _ e)) (omega arith)
      go false true e f = rw (lone_mine B R C i (eqb-true _ _ f)) (omega arith)
      go false false e f = omega (arith, bit_le (lone_at B R C i))

-- ---- the cells of a stack ------------------------------------------------------------------------------------------------------------

module _ (B : List ℤ) (R C : ℕ) where
  tally_zeros : (shown cells : List ℕ) → (tally B R C shown cells).count ≤ among (λ i. eqb (face_at B i) 0) cells
  unfolding tally among
  tally_zeros shown [] = omega arith
  tally_zeros shown (i ∷ st) = let a = tally_zeros shown st in let o = judge_adds B R C shown i (tally B R C shown st) in omega arith

  -- openings are counted at 0 cells
  pub judged_zeros : (shown cells : List ℕ) → openings_judged B R C shown cells ≤ among (λ i. eqb (face_at B i) 0) cells
  unfolding openings_judged
  judged_zeros shown cells = tally_zeros shown cells

  among_safe : (cells : List ℕ) → among (λ i. eqb (face_at B i) 0) cells + lones B R C cells ≤ among (safe_at B) cells
  unfolding among lones
  among_safe [] = omega arith
  among_safe (i ∷ st) = let a = among_safe st in let o = lone_adds B R C i in omega arith

  -- THE BOUND THAT A LAWFUL POSITION WANTS: what a chord adds is at most its safe cells
  pub judged_lones_safe : (shown cells : List ℕ) → openings_judged B R C shown cells + lones B R C cells ≤ among (safe_at B) cells
  judged_lones_safe shown cells = let a = judged_zeros shown cells in let b = among_safe cells in omega arith

pub among_length : (p : ℕ → Bool) (cells : List ℕ) → among p cells ≤ length cells
unfolding among
among_length p [] = omega arith
among_length p (i ∷ st) = omega (arith, among_length p st, bit_le (p i))

pub judged_lones_length : (B : List ℤ) (R C : ℕ) (shown cells : List ℕ) → openings_judged B R C shown cells + lones B R C cells ≤ length cells
judged_lones_length B R C shown cells = omega (arith, judged_lones_safe B R C shown cells, among_length (safe_at B) cells)

pub judged_length : (B : List ℤ) (R C : ℕ) (shown cells : List ℕ) → openings_judged B R C shown cells ≤ length cells
judged_length B R C shown cells = omega (arith, judged_lones_length B R C shown cells)

pub cells_length : (p : ℕ → Bool) (n : ℕ) → length (cells_if p n) ≤ n
unfolding cells_if
cells_length p zero = omega arith
cells_length p (suc n) = go (p n) (cells_length p n)
  where
    go : (b : Bool) → length (cells_if p n) ≤ n → length (push_if b n (cells_if p n)) ≤ suc n
    go true h = omega arith
    go false h = omega arith

-- whatever the test is, at most one for a cell
bv_cells : (B : List ℤ) (R C : ℕ) (due : ℕ → Bool) → bv_of B R C due ≤ R * C
unfolding bv_of
bv_cells B R C due = omega (arith, judged_lones_length B R C [] (cells_if due (R * C)), cells_length due (R * C))

pub total_cells : (B : List ℤ) (R C : ℕ) → total3bv B R C ≤ R * C
unfolding total3bv
total_cells B R C = bv_cells B R C (λ i. true)

pub left_cells : (B : List ℤ) (R C : ℕ) (shown : List ℕ) → left_to_solve B R C shown ≤ R * C
unfolding left_to_solve
left_cells B R C shown = bv_cells B R C (not_open_at shown)

-- ---- the marks keep their length -----------------------------------------------------------------------------------------------------

module _ (B : List ℤ) (R C : ℕ) (shown : List ℕ) where
  pub walk_long : (f : ℕ) (st marks : List ℕ) (whole : Bool) → length (walk B R C shown f st marks whole).marks ≡ length marks
  walk_long zero st marks whole = rw (walk_zero B R C shown st marks whole) refl
  walk_long (suc f) [] marks whole = rw (walk_nil B R C shown (suc f) marks whole) refl
  walk_long (suc f) (i ∷ st) marks whole = go (kind B shown marks i) refl (λ s m. walk_long f s m whole)
    where
      go : (k : Kind) → kind B shown marks i ≡ k → ((s m : List ℕ) → length (walk B R C shown f s m whole).marks ≡ length m) → length (walk B R C shown (suc f) (i ∷ st) marks whole).marks ≡ length marks
      go pass k rec = rw (walk_pass B R C shown f i st marks whole k) (rec st marks)
      go stop k rec = rw (walk_stop B R C shown f i st marks whole k) refl
      go mark k rec = rw (walk_mark B R C shown f i st marks whole k) (rec _ (set marks i 1) ∙ length-set marks i 1)

  pub from_long : (i : ℕ) (marks : List ℕ) → length (walk_from B R C shown i marks).marks ≡ length marks
  unfolding walk_from
  from_long i marks = walk_long (turns (R * C)) (i ∷ []) marks true

  judge_long : (i : ℕ) (t : Tally) → length (judge_one B R C shown i t).marks ≡ length t.marks
  judge_long i t = go (free_at t.marks i) (eqb (face_at B i) 0) refl refl
    where
      go : (a b : Bool) → free_at t.marks i ≡ a → eqb (face_at B i) 0 ≡ b → length (judge_one B R C shown i t).marks ≡ length t.marks
      go true true e f = rw (judge_zero B R C shown i t e (eqb-true _ _ f)) (from_long i t.marks)
      go false true e f = rw (judge_marked B R C shown i t e) refl
      go a false e f = rw (judge_number B R C shown i t (eqb-false _ _ f)) refl

  pub tally_long : (cells : List ℕ) → length (tally B R C shown cells).marks ≡ R * C
  unfolding tally
  tally_long [] = length-replicate (R * C) 0
  tally_long (i ∷ st) = judge_long i (tally B R C shown st) ∙ tally_long st
