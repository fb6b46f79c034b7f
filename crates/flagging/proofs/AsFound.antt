-- Flagging each cell as it is found leaves what flagging the list of a scan leaves.
-- A flag takes one from the remainder and one from the closed neighbours of every number beside it: a number that is ripe among the flags was ripe before them,
-- and one that was ripe and is not any more has no closed neighbour left, so that its list changes nothing.
use mathlib.Core.Path.{◌≡◌, refl, ap, sym, ◌∙◌}
use mathlib.Core.Bool.{Bool, true, false, false≢true}
use mathlib.Core.List.{List}
use Prim.Native.Nat.{ℕ, zero, suc, ◌+◌, ◌*◌, ◌<◌}
use native.Mathlib.Nat.{suc-mul}
use native.Mathlib.Omega.{arith}
use borrow.Author.Tests.{eqb-true, eqb-false}
use lib.IntN.{ℤ}
use lib.Dec.{eqb}
use Rattle.rules.specs.declared.Position.{Position}
use Rattle.rules.specs.Words.{pick}
use Rattle.rules.specs.States.{with_flag}
use Rattle.rules.specs.Grid.{cell_of, neighbour, around, push_if, pushed}
use Rattle.rules.specs.Opening.{closed_at}
use Rattle.rules.specs.Clicks.{Desk, desk, rows_of, columns_of}
use Rattle.rules.specs.Passes.{ripe_at, listed, flag_one, flag_all, flag_pass}
use Rattle.cells.proofs.Words.{count_none, false_unless}
use Rattle.flagging.specs.Scan.{flag_around, flag_beside, flag_row, flag_rows, Flags}
use Rattle.flagging.proofs.Flagging.{flag_no}
use Rattle.flagging.proofs.Ripeness.{ripe_parts, ripe_made}
use Rattle.flagging.proofs.OneScan.{Turns, turned_closed, turns_all, around_turns, same_unless_flagged, ripe_before, flag_pass_once}

-- one that was ripe and is not any more has no closed neighbour left
module _ (R C : ℕ) (s s' : List ℕ) (t : Turns s s') (c : ℕ) where
  spent : ripe_at R C s c ≡ true → ripe_at R C s' c ≡ false → (j : ℕ) → j < 8 → closed_at s' (neighbour R C c j) ≡ false
  unfolding around
  spent e n j l = count_none (λ k. closed_at s' (neighbour R C c k)) 8 (go (eqb (around R C (closed_at s') c) 0) refl) j l
    where
      go : (b : Bool) → eqb (around R C (closed_at s') c) 0 ≡ b → around R C (closed_at s') c ≡ 0
      go true z = eqb-true _ _ z
      go false z =
          let r = ripe_parts R C s c e in
          let m = around_turns R C s s' t c in
          let some = eqb-false (around R C (closed_at s') c) 0 z in
          let v = same_unless_flagged R C s s' t c (λ x y. omega (arith, r.high)) in
          absurd (false≢true (sym n ∙ ripe_made R C s' c
          (record { low = omega (arith, r.low); high = omega (arith, r.high); some = omega (arith, r.sum, m.0); sum = omega (arith, r.sum, m.0) })))

module _ (B : List ℤ) (R C : ℕ) (d : Desk) where
  -- a flag on a cell that was not closed before the list does nothing after it
  flag_pushed : (q : ℕ) (st : List ℕ) → flag_one B q (flag_all B st d) ≡ flag_all B (push_if (closed_at d.shown q) q st) d
  unfolding flag_all
  flag_pushed q st = go (closed_at d.shown q) refl
    where
      go : (b : Bool) → closed_at d.shown q ≡ b → flag_one B q (flag_all B st d) ≡ flag_all B (push_if b q st) d
      go true e = refl
      go false e =
          flag_no B q (flag_all B st d)
          (false_unless (closed_at (flag_all B st d).shown q) (λ y. false≢true (sym e ∙ turned_closed _ _ (turns_all B st d q) y)))

  around_pushed : (i k : ℕ) (st : List ℕ) → flag_around B R C i k (flag_all B st d) ≡ flag_all B (pushed R C (closed_at d.shown) i k st) d
  unfolding flag_around pushed
  around_pushed i zero st = refl
  around_pushed i (suc k) st = ap (flag_one B (neighbour R C i k)) (around_pushed i k st) ∙ flag_pushed (neighbour R C i k) (pushed R C (closed_at d.shown) i k st)

  -- where no neighbour is closed nothing is flagged
  around_none : (e : Desk) (i k : ℕ) → ((j : ℕ) → j < k → closed_at e.shown (neighbour R C i j) ≡ false) → flag_around B R C i k e ≡ e
  unfolding flag_around
  around_none e i zero h = refl
  around_none e i (suc k) h = ap (flag_one B (neighbour R C i k)) (around_none e i k (λ j l. h j (omega arith))) ∙ flag_no B (neighbour R C i k) e (h k (omega arith))

  abbrev after : ℕ → Desk
  after n = flag_all B (listed R C d.shown n) d

  -- one cell
  found_cell : (i : ℕ) → flag_beside B R C i (after i) ≡ after (suc i)
  unfolding flag_beside listed
  found_cell i = go (ripe_at R C d.shown i) (ripe_at R C (after i).shown i) refl refl
    where
      turns : Turns d.shown (after i).shown
      turns = turns_all B (listed R C d.shown i) d

      go : (a b : Bool) → ripe_at R C d.shown i ≡ a → ripe_at R C (after i).shown i ≡ b
          → pick b (flag_around B R C i 8 (after i)) (after i) ≡ flag_all B (pick a (pushed R C (closed_at d.shown) i 8 (listed R C d.shown i)) (listed R C d.shown i)) d
      go true true x y = around_pushed i 8 (listed R C d.shown i)
      go true false x y =
          sym (around_none (after i) i 8 (spent R C d.shown (after i).shown turns i x y)) ∙ around_pushed i 8 (listed R C d.shown i)
      go false true x y = absurd (false≢true (sym x ∙ ripe_before R C d.shown (after i).shown turns i y))
      go false false x y = refl

  found_row : (row n : ℕ) → flag_row B R C row n (after (row * C)) ≡ after (row * C + n)
  unfolding flag_row
  found_row row zero = ap after (omega arith)
  found_row row (suc n) = ap (flag_beside B R C (cell_of C row n)) (found_row row n) ∙ found_cell (cell_of C row n) ∙ ap after (omega arith)

  -- LAW: the first rows of the scan leave what the list of their cells leaves
  pub found_rows : (n : ℕ) → flag_rows B R C n d ≡ after (n * C)
  unfolding flag_rows flag_all listed
  found_rows zero = let z : 0 ≡ 0 * C = omega arith in ap after z
  found_rows (suc n) = ap (flag_row B R C n C) (found_rows n) ∙ found_row n C ∙ ap after (sym (suc-mul n C))

-- THEOREM: the scan that flags each cell as it is found leaves what the definition's pass leaves
pub found_as_listed : (B : List ℤ) (d : Desk) → flag_rows B (rows_of d) (columns_of d) (rows_of d) d ≡ flag_pass B d
found_as_listed B d = found_rows B (rows_of d) (columns_of d) d (rows_of d) ∙ sym (flag_pass_once B d)

-- the code's pass: the flags of the scan, counted, go into the position
pub pass_is : (B : List ℤ) (p q : Position) (s b s' b' : List ℕ) (n R C : ℕ) → R ≡ p.settings.rows → C ≡ p.settings.columns → Flags (flag_rows B R C R) 0 s b n s' b'
    → q ≡ with_flag p (p.counts.flag + n) → desk q s' b' ≡ flag_pass B (desk p s b)
pass_is B p q s b s' b' n R C er ec f e =
    let none : p.counts.flag + 0 ≡ p.counts.flag = omega arith in
    ap (λ (x : Position). desk x s' b') e ∙ f.outcome p
    ∙ ap (λ (m : ℕ). flag_rows B R C R (desk (with_flag p m) s b)) none
    ∙ rw (er, ec) (found_as_listed B (desk p s b))
