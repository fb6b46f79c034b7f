-- The scan that flags each cell as it is found: its flags add up, neighbour by neighbour, cell by cell and row by row.
use mathlib.Core.Path.{◌≡◌, refl, ap, ap₂, sym, ◌∙◌}
use mathlib.Core.Bool.{true, false}
use mathlib.Core.List.{List}
use Prim.Native.Nat.{ℕ, ◌+◌, ◌*◌, ◌/◌, ◌%◌, ◌<◌, ◌≤◌}
use native.Mathlib.Omega.{arith}
use native.Mathlib.Numerals.{add-one}
use borrow.Author.Tests.{eq-eqb}
use lib.ListN.{length, get_or, set}
use lib.IntN.{ℤ}
use Rattle.rules.specs.declared.Position.{Position}
use Rattle.rules.specs.States.{with_flag}
use Rattle.rules.specs.Grid.{cell_of, ninth, cell_before}
use Rattle.rules.specs.Opening.{closed_at}
use Rattle.rules.specs.Clicks.{Desk, desk, bits_with}
use Rattle.rules.specs.Passes.{ripe_at, flag_one}
use Rattle.cells.specs.Ground.{Valued}
use Rattle.cells.specs.Promises.{closed_in}
use Rattle.cells.proofs.Grid.{neighbour_at}
use Rattle.opening.proofs.Cost.{closed_set, closed_most}
use Rattle.flagging.specs.Scan.{flag_around, flag_beside, flag_row, flag_rows, Flaggable, Flags}
use Rattle.flagging.proofs.Flagging.{flag_yes, flag_no}

-- ---- the flags of the scan ---------------------------------------------------------------------------------------------------------------

module _ (B : List ℤ) (q n : ℕ) (shown bits : List ℕ) where
  pub flags_one : (bits' : List ℕ) → get_or shown q 0 ≡ 10 → bits' ≡ bits_with B bits q → Flags (flag_one B q) n shown bits (n + 1) (set shown q 11) bits'
  flags_one bits' e b =
      let l = closed_set shown q 11 (eq-eqb _ _ e) (λ h. omega arith) in
      record {
        outcome = λ p. ap₂ (λ (x : ℕ) (y : List ℕ). desk (with_flag p x) (set shown q 11) y) (omega arith) b
            ∙ sym (flag_yes B q (desk (with_flag p (p.counts.flag + n)) shown bits) (eq-eqb _ _ e));
        count = omega arith;
      }

  pub flags_none : closed_at shown q ≡ false → Flags (flag_one B q) n shown bits n shown bits
  flags_none e = record { outcome = λ p. sym (flag_no B q (desk (with_flag p (p.counts.flag + n)) shown bits) e); count = refl }

-- on top of those counted before
pub flags_past : (f : Desk → Desk) (past : ℕ) {n : ℕ} {s b s' b' : List ℕ} → Flags f 0 s b n s' b' → Flags f past s b (past + n) s' b'
flags_past f past {n} {s} {b} {s'} {b'} x =
    record {
      outcome = λ p.
          let q = with_flag p (p.counts.flag + past) in
          ap (λ (m : ℕ). desk (with_flag p m) s' b') (omega arith) ∙ x.outcome q ∙ ap (λ (m : ℕ). f (desk (with_flag p m) s b)) (omega arith);
      count = omega (arith, x.count);
    }

pub flags_as : (f h : Desk → Desk) {n n' : ℕ} {s b s' b' : List ℕ} → Flags f n s b n' s' b' → ((p : Position) (m : ℕ) → h (desk (with_flag p m) s b) ≡ f (desk (with_flag p m) s b)) → Flags h n s b n' s' b'
flags_as f h x e = record { outcome = λ p. x.outcome p ∙ sym (e p _); count = x.count }

-- ---- its loops ---------------------------------------------------------------------------------------------------------------------------

-- nothing is counted yet
pub room_start : {B : List ℤ} {s b : List ℕ} {R C : ℕ} → Flaggable B s b R C → 0 + closed_in s ≤ 2048
room_start {B} {s} f = let m = closed_most s in omega (arith, f.board, f.mined.sized.cells)

-- the flags so far, on boards as long
pub record Going (due : Desk → Desk) (n : ℕ) (s b : List ℕ) (n' : ℕ) (s' b' : List ℕ) : Type 0 where
  pub flags : Flags due n s b n' s' b'
  pub board : length s' ≡ length s
  pub bytes : length b' ≡ length b

module _ {B : List ℤ} {R C : ℕ} {due : Desk → Desk} {n n' : ℕ} {s b s' b' : List ℕ} (f : Flaggable B s b R C) (r : n + closed_in s ≤ 2048) (g : Going due n s b n' s' b') where
  -- what the next part may rely on
  pub going_asks : Flaggable B s' b' R C
  going_asks = record { mined = f.mined; board = g.board ∙ f.board; bytes = g.bytes ∙ f.bytes }

  pub going_room : n' + closed_in s' ≤ 2048
  going_room = omega (arith, g.flags.count)

  pub going_one : Valued B × ((length s' ≡ length B) × ((length B ≤ 8 * length b') × (n' + closed_in s' ≤ 2048)))
  going_one = let k = f.bytes in (f.mined.valued, (g.board ∙ f.board ∙ sym f.mined.long, (omega (arith, f.mined.long, g.bytes), going_room)))

-- nothing is done yet
pub around_start : (B : List ℤ) (R C i n : ℕ) (s b : List ℕ) → Going (flag_around B R C i 0) n s b n s b
unfolding flag_around
around_start B R C i n s b = record { flags = record { outcome = λ p. refl; count = refl }; board = refl; bytes = refl }

pub row_start : (B : List ℤ) (R C row n : ℕ) (s b : List ℕ) → Going (flag_row B R C row 0) n s b n s b
unfolding flag_row
row_start B R C row n s b = record { flags = record { outcome = λ p. refl; count = refl }; board = refl; bytes = refl }

pub rows_start : (B : List ℤ) (R C n : ℕ) (s b : List ℕ) → Going (flag_rows B R C 0) n s b n s b
unfolding flag_rows
rows_start B R C n s b = record { flags = record { outcome = λ p. refl; count = refl }; board = refl; bytes = refl }

module _ {n n' n'' : ℕ} {s b s' b' s'' b'' : List ℕ} (l : length s'' ≡ length s') (k : length b'' ≡ length b') where
  going_on : (f g h : Desk → Desk) → Going f n s b n' s' b' → Flags g n' s' b' n'' s'' b'' → ((d : Desk) → h d ≡ g (f d)) → Going h n s b n'' s'' b''
  going_on f g h x y e =
      record {
        flags = record { outcome = λ p. y.outcome p ∙ ap g (x.flags.outcome p) ∙ sym (e _); count = y.count ∙ x.flags.count };
        board = l ∙ x.board;
        bytes = k ∙ x.bytes;
      }

  module _ (B : List ℤ) (R C : ℕ) where
    -- one neighbour more
    pub around_more : (row column m q : ℕ) → column < C → q ≡ cell_before R C (row + ninth m / 3) (column + ninth m % 3)
        → Going (flag_around B R C (cell_of C row column) m) n s b n' s' b' → Flags (flag_one B q) n' s' b' n'' s'' b'' → Going (flag_around B R C (cell_of C row column) (m + 1)) n s b n'' s'' b''
    unfolding flag_around
    around_more row column m q h e x y =
        going_on (flag_around B R C (cell_of C row column) m) (flag_one B q) (flag_around B R C (cell_of C row column) (m + 1)) x y
        (λ d. rw add-one (ap (λ (i : ℕ). flag_one B i (flag_around B R C (cell_of C row column) m d)) (sym (e ∙ neighbour_at R C row column m h))))

    -- one cell more
    pub row_more : (row column : ℕ) → Going (flag_row B R C row column) n s b n' s' b' → Flags (flag_beside B R C (cell_of C row column)) n' s' b' n'' s'' b''
        → Going (flag_row B R C row (column + 1)) n s b n'' s'' b''
    unfolding flag_row
    row_more row column x y = going_on (flag_row B R C row column) (flag_beside B R C (cell_of C row column)) (flag_row B R C row (column + 1)) x y (λ d. rw add-one refl)

    -- one row more
    pub rows_more : (row : ℕ) → Going (flag_rows B R C row) n s b n' s' b' → Flags (flag_row B R C row C) n' s' b' n'' s'' b'' → Going (flag_rows B R C (row + 1)) n s b n'' s'' b''
    unfolding flag_rows
    rows_more row x y = going_on (flag_rows B R C row) (flag_row B R C row C) (flag_rows B R C (row + 1)) x y (λ d. rw add-one refl)

-- one cell of the scan
module _ (B : List ℤ) (R C i past : ℕ) (s b : List ℕ) where
  pub beside_ripe : {n : ℕ} {s' b' : List ℕ} → ripe_at R C s i ≡ true → Flags (flag_around B R C i 8) 0 s b n s' b' → Flags (flag_beside B R C i) past s b (past + n) s' b'
  unfolding flag_beside
  beside_ripe e x = flags_as (flag_around B R C i 8) (flag_beside B R C i) (flags_past (flag_around B R C i 8) past x) (λ p m. rw e refl)

  pub beside_unripe : ripe_at R C s i ≡ false → Flags (flag_beside B R C i) past s b past s b
  unfolding flag_beside
  beside_unripe e = record { outcome = λ p. rw e refl; count = refl }
