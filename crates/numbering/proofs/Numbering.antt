-- Numbering writes the numbered board, and that board passes the board check.
use mathlib.Core.Path.{◌≡◌, refl, ap, ap₂, sym, ◌∙◌}
use mathlib.Core.Bool.{Bool, true, false, not, ◌&&◌, ◌||◌}
use mathlib.Core.List.{List}
use Prim.Native.Nat.{ℕ, zero, suc, ◌+◌, ◌-◌, ◌*◌, ◌/◌, ◌%◌, ◌<◌, ◌≤◌}
use native.Mathlib.Omega.{arith}
use native.Mathlib.Numerals.{add-one}
use native.Mathlib.Decide.{ℕ_discrete}
use borrow.Author.Tests.{lt-ltb, le-ltb, ltb-true, ltb-false, le-leb, leb-true, eq-eqb, ne_eqb, eqb-true}
use lib.Dec.{ltb, eqb}
use lib.ListN.{length, get_or, set, replicate, length-set, length-replicate, get_or-replicate, get_or-eq_default}
use lib.Seq.{get_or-set_same, get_or-set_other, ext_get_or}
use lib.IntN.{ℤ, pos, negsuc}
use mir.Syntax.{w8}
use mir.Val.{to_z}
use mir.Facts.{to_z_pos}
use Rattle.rules.specs.Words.{pick, count, every, in_order}
use Rattle.rules.specs.Grid.{size_ok, cell_of, around}
use Rattle.rules.specs.Board.{
  face,
  face_at,
  mine_at,
  value_ok,
  values_ok,
  number_ok,
  numbers_ok,
  some_safe,
  board_refusal,
  mines_in,
  mine_row,
  mine_column,
  mine_cell,
  rises,
  mine_ok,
  listed_mine,
  numbered_at,
  numbered,
  numbering_refusal,
}
use Rattle.rules.specs.declared.Refusal.{Refusal}
use Rattle.rules.specs.Refusals.{refusal_number}
use Rattle.rules.specs.Calls.{Numbered, numbering_of}
use Rattle.cells.specs.Ground.{Valued, Mined, face_is}
use Rattle.cells.proofs.Words.{and_left, and_right, unless_passed, count_same, count_zero, every_at, every_all, in_order_length}
use Rattle.cells.proofs.Grid.{around_same, around_le, size_limits, cell_lt, cell_back}
use Rattle.boards.proofs.Tests.{refused_last, mine_face}
use Rattle.numbering.specs.Numbering.{placed, number_one, number_first}
use Rattle.cells.proofs.Refused.{never_0}
use Rattle.numbering.proofs.Counts.{count_all, count_or, count_one, in_order_at}

-- ---- a store in a board ------------------------------------------------------------------------------------------------------------------

-- what holds of the value stored and of the one that stood at j before holds at j after
at_set : (P : ℤ → Type 0) (B : List ℤ) (m : ℕ) (z : ℤ) (j : ℕ) → (j ≡ m → m < length B → P z) → ((j ≡ m → ⊥) → P (get_or B j (pos 0)))
    → j < length B → P (get_or (set B m z) j (pos 0))
at_set P B m z j f g h = go (ℕ_discrete j m)
  where
    go : Dec (j ≡ m) → P (get_or (set B m z) j (pos 0))
    go (yes e) = let l : m < length B = omega arith in rw (e, get_or-set_same B m z (pos 0) l) (f e l)
    go (no e) = rw (get_or-set_other B m j z (pos 0) e) (g e)

pub valued_set : (B : List ℤ) (m : ℕ) (z : ℤ) → Valued B → value_ok z ≡ true → Valued (set B m z)
valued_set B m z v e j h =
    let l : j < length B = rw (length-set B m z) at h in
    at_set (λ x. value_ok x ≡ true) B m z j (λ _ _. e) (λ _. v j l) l

or-true : (a : Bool) → (a || true) ≡ true
or-true true = refl
or-true false = refl

or_false : (a : Bool) → (a || false) ≡ a
or_false true = refl
or_false false = refl

-- a mine is stored
mine_set : (B : List ℤ) (m j : ℕ) → m < length B → mine_at (set B m (negsuc 0)) j ≡ (mine_at B j || eqb m j)
mine_set B m j h = go (ℕ_discrete j m)
  where
    go : Dec (j ≡ m) → mine_at (set B m (negsuc 0)) j ≡ (mine_at B j || eqb m j)
    go (yes e) =
        ap (mine_at (set B m (negsuc 0))) e ∙ ap (λ (z : ℤ). eqb (face z) 15) (get_or-set_same B m (negsuc 0) (pos 0) h)
        ∙ sym (ap (λ (b : Bool). mine_at B j || b) (eq-eqb m j (sym e)) ∙ or-true (mine_at B j))
    go (no e) =
        ap (λ (z : ℤ). eqb (face z) 15) (get_or-set_other B m j (negsuc 0) (pos 0) e)
        ∙ sym (ap (λ (b : Bool). mine_at B j || b) (ne_eqb m j (λ d. e (sym d))) ∙ or_false (mine_at B j))

-- a number is stored at a safe cell
number_set : (B : List ℤ) (i n j : ℕ) → i < length B → mine_at B i ≡ false → n ≤ 8 → mine_at (set B i (pos n)) j ≡ mine_at B j
number_set B i n j h s l = go (ℕ_discrete j i)
  where
    go : Dec (j ≡ i) → mine_at (set B i (pos n)) j ≡ mine_at B j
    go (yes e) =
        ap (mine_at (set B i (pos n))) e ∙ ap (λ (z : ℤ). eqb (face z) 15) (get_or-set_same B i (pos n) (pos 0) h)
        ∙ ne_eqb n 15 (λ d. omega arith) ∙ sym (ap (mine_at B) e ∙ s)
    go (no e) = ap (λ (z : ℤ). eqb (face z) 15) (get_or-set_other B i j (pos n) (pos 0) e)

-- a value that is a mine's is -1
mine_value : (z : ℤ) → value_ok z ≡ true → eqb (face z) 15 ≡ true → z ≡ negsuc 0
mine_value (pos n) v e = let h = leb-true n 8 v in let d = eqb-true n 15 e in absurd (omega arith)
mine_value (negsuc n) v e = ap negsuc (eqb-true n 0 v)

-- ---- the mines are placed ----------------------------------------------------------------------------------------------------------------

-- the cell is among the first n mines
unfoldable pub listed_by : ℕ → List ℕ → ℕ → ℕ → Bool
listed_by C ms n i = not (every (λ k. not (eqb (mine_cell C ms k) i)) n)

not_and_not : (a b : Bool) → not (a && not b) ≡ (not a || b)
not_and_not true true = refl
not_and_not true false = refl
not_and_not false b = refl

module _ (C : ℕ) (ms : List ℕ) where
  listed_all : (i : ℕ) → listed_by C ms (mines_in ms) i ≡ listed_mine C ms i
  unfolding listed_by listed_mine
  listed_all i = refl

  listed_none : (i : ℕ) → listed_by C ms 0 i ≡ false
  unfolding listed_by every
  listed_none i = refl

  listed_more : (n i : ℕ) → listed_by C ms (suc n) i ≡ (listed_by C ms n i || eqb (mine_cell C ms n) i)
  unfolding listed_by every
  listed_more n i = not_and_not (every (λ k. not (eqb (mine_cell C ms k) i)) n) (eqb (mine_cell C ms n) i)

  pub placed_length : (n : ℕ) (B : List ℤ) → length (placed C ms n B) ≡ length B
  unfolding placed
  placed_length zero B = refl
  placed_length (suc n) B = length-set (placed C ms n B) (mine_cell C ms n) (negsuc 0) ∙ placed_length n B

  placed_valued : (n : ℕ) (B : List ℤ) → Valued B → Valued (placed C ms n B)
  unfolding placed
  placed_valued zero B v = v
  placed_valued (suc n) B v = valued_set (placed C ms n B) (mine_cell C ms n) (negsuc 0) (placed_valued n B v) refl

  -- on a board without mines, the mines are those of the list
  placed_mines : (n : ℕ) (B : List ℤ) → ((j : ℕ) → mine_at B j ≡ false) → ((k : ℕ) → k < n → mine_cell C ms k < length B)
      → (j : ℕ) → mine_at (placed C ms n B) j ≡ listed_by C ms n j
  unfolding placed
  placed_mines zero B f on j = f j ∙ sym (listed_none j)
  placed_mines (suc n) B f on j =
      let l : mine_cell C ms n < length (placed C ms n B) = rw (placed_length n B) (on n (omega arith)) in
      mine_set (placed C ms n B) (mine_cell C ms n) j l
      ∙ ap (λ (b : Bool). b || eqb (mine_cell C ms n) j) (placed_mines n B f (λ k h. on k (omega arith)) j)
      ∙ sym (listed_more n j)

-- ---- the cells are numbered --------------------------------------------------------------------------------------------------------------

-- a mine, or a number
unfoldable number_as : ℕ → ℕ → (ℕ → Bool) → ℕ → ℤ
number_as R C p i = pick (p i) (negsuc 0) (pos (around R C p i))

number_same : (R C : ℕ) (p q : ℕ → Bool) (i : ℕ) → ((j : ℕ) → p j ≡ q j) → number_as R C p i ≡ number_as R C q i
unfolding number_as
number_same R C p q i h = ap₂ (λ (b : Bool) (n : ℕ). pick b (negsuc 0) (pos n)) (h i) (around_same R C p q i h)

numbered_as : (R C : ℕ) (ms : List ℕ) (i : ℕ) → number_as R C (listed_mine C ms) i ≡ numbered_at R C ms i
unfolding number_as numbered_at
numbered_as R C ms i = refl

-- one cell was numbered
record One (R C : ℕ) (B : List ℤ) (i : ℕ) (A : List ℤ) : Type 0 where
  mined : Mined A R C
  mines : (j : ℕ) → mine_at A j ≡ mine_at B j
  here : get_or A i (pos 0) ≡ number_as R C (mine_at B) i
  else : (j : ℕ) → (j ≡ i → ⊥) → get_or A j (pos 0) ≡ get_or B j (pos 0)

number_one_lem : (R C : ℕ) (B : List ℤ) (i : ℕ) → Mined B R C → i < R * C → One R C B i (number_one R C B i)
unfolding number_one number_as
number_one_lem R C B i m h = go (mine_at B i) refl
  where
    l : i < length B
    l = rw m.long h

    ok : value_ok (pos (around R C (mine_at B) i)) ≡ true
    ok = le-leb (around R C (mine_at B) i) 8 (around_le R C (mine_at B) i)

    go : (b : Bool) → mine_at B i ≡ b → One R C B i (pick b B (set B i (pos (around R C (mine_at B) i))))
    go true e = record {
      mined = m;
      mines = λ j. refl;
      here = mine_value (get_or B i (pos 0)) (m.valued i l) e ∙ sym (ap (λ (b : Bool). pick b (negsuc 0) (pos (around R C (mine_at B) i))) e);
      else = λ j d. refl;
    }
    go false e = record {
      mined = record {
        sized = m.sized;
        long = length-set B i (pos (around R C (mine_at B) i)) ∙ m.long;
        valued = valued_set B i (pos (around R C (mine_at B) i)) m.valued ok;
      };
      mines = λ j. number_set B i (around R C (mine_at B) i) j l e (around_le R C (mine_at B) i);
      here = get_or-set_same B i (pos (around R C (mine_at B) i)) (pos 0) l ∙ sym (ap (λ (b : Bool). pick b (negsuc 0) (pos (around R C (mine_at B) i))) e);
      else = λ j d. get_or-set_other B i j (pos (around R C (mine_at B) i)) (pos 0) d;
    }

-- the first n cells were numbered
record First (R C : ℕ) (B : List ℤ) (n : ℕ) (A : List ℤ) : Type 0 where
  pub mined : Mined A R C
  mines : (j : ℕ) → mine_at A j ≡ mine_at B j
  numbers : (j : ℕ) → j < n → get_or A j (pos 0) ≡ number_as R C (mine_at B) j

first_more : (R C : ℕ) (B : List ℤ) (n : ℕ) (A A' : List ℤ) → First R C B n A → One R C A n A' → First R C B (suc n) A'
first_more R C B n A A' f o = record {
  mined = o.mined;
  mines = λ j. o.mines j ∙ f.mines j;
  numbers = λ j h. go j h (ℕ_discrete j n);
}
  where
    go : (j : ℕ) → j < suc n → Dec (j ≡ n) → get_or A' j (pos 0) ≡ number_as R C (mine_at B) j
    go j h (yes e) = ap (λ (k : ℕ). get_or A' k (pos 0)) e ∙ o.here ∙ number_same R C (mine_at A) (mine_at B) n f.mines ∙ ap (number_as R C (mine_at B)) (sym e)
    go j h (no e) = o.else j e ∙ f.numbers j (omega arith)

number_first_lem : (R C : ℕ) (B : List ℤ) (n : ℕ) → Mined B R C → n ≤ R * C → First R C B n (number_first R C n B)
unfolding number_first
number_first_lem R C B zero m h = record { mined = m; mines = λ j. refl; numbers = λ j l. absurd (omega arith) }
number_first_lem R C B (suc n) m h =
    let f = number_first_lem R C B n m (omega arith) in
    first_more R C B n (number_first R C n B) (number_one R C (number_first R C n B) n) f (number_one_lem R C (number_first R C n B) n f.mined (omega arith))

-- ---- a list that is not refused ----------------------------------------------------------------------------------------------------------

-- what the tests of numbering gave
pub record Numberable (R C : ℕ) (ms : List ℕ) (B : List ℤ) : Type 0 where
  pub size : size_ok R C ≡ true
  pub long : length B ≡ R * C
  pub even : length ms % 2 ≡ 0
  pub right : every (mine_ok R C ms) (mines_in ms) ≡ true
  pub fewer : mines_in ms < R * C

pub numbering_accepted : (R C : ℕ) (ms : List ℕ) (B : List ℤ) → numbering_refusal R C ms B ≡ 0 → Numberable R C ms B
unfolding numbering_refusal
numbering_accepted R C ms B e =
    let a = unless_passed 19 (size_ok R C) _ e in
    let b = unless_passed 20 (eqb (length B) (R * C) && eqb (length ms % 2) 0) _ a.1 in
    let d = unless_passed 41 (every (mine_ok R C ms) (mines_in ms)) _ b.1 in
    let f = unless_passed 23 (ltb (mines_in ms) (R * C)) 0 d.1 in
    record {
      size = a.0;
      long = eqb-true _ _ (and_left (eqb (length B) (R * C)) (eqb (length ms % 2) 0) b.0);
      even = eqb-true _ _ (and_right (eqb (length B) (R * C)) (eqb (length ms % 2) 0) b.0);
      right = d.0;
      fewer = ltb-true _ _ f.0;
    }

mine_on : (R C : ℕ) (ms : List ℕ) (n : ℕ) → mine_ok R C ms n ≡ true → mine_cell C ms n < R * C
unfolding mine_ok
mine_on R C ms n e =
    let a = and_right (ltb (mine_row ms n) R) (ltb (mine_column ms n) C && rises C ms n) e in
    cell_lt R C (mine_row ms n) (mine_column ms n) (ltb-true _ _ (and_left (ltb (mine_row ms n) R) _ e)) (ltb-true _ _ (and_left (ltb (mine_column ms n) C) _ a))

module _ (R C : ℕ) (ms : List ℕ) (right : every (mine_ok R C ms) (mines_in ms) ≡ true) where
  -- every mine is a cell of the board
  pub mines_on : (n : ℕ) → n < mines_in ms → mine_cell C ms n < R * C
  mines_on n h = mine_on R C ms n (every_at (mine_ok R C ms) (mines_in ms) right n h)

  listed_off : (j : ℕ) → R * C ≤ j → listed_mine C ms j ≡ false
  unfolding listed_mine
  listed_off j h =
      ap not (every_all (λ n. not (eqb (mine_cell C ms n) j)) (mines_in ms) (λ n l. ap not (ne_eqb (mine_cell C ms n) j (λ e. let k = mines_on n l in omega arith))))

zeros_at : (n j : ℕ) → get_or (replicate n (pos 0)) j (pos 0) ≡ pos 0
zeros_at n j = go (ltb j n) refl
  where
    go : (b : Bool) → ltb j n ≡ b → get_or (replicate n (pos 0)) j (pos 0) ≡ pos 0
    go true e = get_or-replicate n j (pos 0) (pos 0) (ltb-true j n e)
    go false e = get_or-eq_default (replicate n (pos 0)) (pos 0) (rw (length-replicate n (pos 0)) (ltb-false j n e))

-- the three passes of numbering: a board of 0s, with the mines of the list placed, with its cells numbered
module _ (R C : ℕ) (ms : List ℕ) (B : List ℤ) (none : numbering_refusal R C ms B ≡ 0) (Z : List ℤ) (cleared : Z ≡ replicate (length B) (pos 0)) where
  cleared_at : (j : ℕ) → get_or Z j (pos 0) ≡ pos 0
  cleared_at j = ap (λ (l : List ℤ). get_or l j (pos 0)) cleared ∙ zeros_at (length B) j

  cleared_long : length Z ≡ R * C
  cleared_long = ap length cleared ∙ length-replicate (length B) (pos 0) ∙ (numbering_accepted R C ms B none).long

  -- every mine has its place
  pub place_ready : (n : ℕ) → n < mines_in ms → mine_cell C ms n < length Z
  place_ready n h = rw cleared_long (mines_on R C ms (numbering_accepted R C ms B none).right n h)

  module _ (P : List ℤ) (place : P ≡ placed C ms (mines_in ms) Z) where
    place_mined : Mined P R C
    place_mined = rw place (record {
      sized = size_limits R C (numbering_accepted R C ms B none).size;
      long = placed_length C ms (mines_in ms) Z ∙ cleared_long;
      valued = placed_valued C ms (mines_in ms) Z (λ j h. ap value_ok (cleared_at j));
    })

    place_mines : (j : ℕ) → mine_at P j ≡ listed_mine C ms j
    place_mines j =
        ap (λ (l : List ℤ). mine_at l j) place
        ∙ placed_mines C ms (mines_in ms) Z (λ k. ap (λ (z : ℤ). eqb (face z) 15) (cleared_at k)) place_ready j
        ∙ listed_all C ms j

    pub number_ready : {r c : ℕ} → r ≡ R → c ≡ C → Mined P r c
    number_ready e d = rw (e, d) place_mined

    -- numbering the placed mines of the list gives its numbered board
    number_writes : number_first R C (R * C) P ≡ numbered R C ms
    unfolding numbered
    number_writes =
        let f = number_first_lem R C P (R * C) place_mined (omega arith) in
        ext_get_or (pos 0) (number_first R C (R * C) P) (in_order (numbered_at R C ms) (R * C)) (f.mined.long ∙ sym (in_order_length (numbered_at R C ms) (R * C)))
        (λ i h.
        let l : i < R * C = rw f.mined.long at h in
        f.numbers i l ∙ number_same R C (mine_at P) (listed_mine C ms) i place_mines ∙ numbered_as R C ms i
        ∙ sym (in_order_at (numbered_at R C ms) (R * C) (pos 0) i l))

    pub numbering_done : {r c : ℕ} (A : List ℤ) → r ≡ R → c ≡ C → A ≡ number_first r c (r * c) P
        → ◌≡◌ {A = Numbered} (record { number = 0; board = A }) (numbering_of R C ms B)
    unfolding numbering_of
    numbering_done A e d h = simp (eq-eqb _ _ none, h ∙ ap₂ (λ (x y : ℕ). number_first x y (x * y) P) e d ∙ number_writes)

-- ---- the numbered board passes the board check -------------------------------------------------------------------------------------------

few_value : (b : Bool) (n : ℕ) → n ≤ 8 → value_ok (pick b (negsuc 0) (pos n)) ≡ true
few_value true n h = refl
few_value false n h = le-leb n 8 h

few_mine : (b : Bool) (n : ℕ) → n ≤ 8 → eqb (face (pick b (negsuc 0) (pos n))) 15 ≡ b
few_mine true n h = refl
few_mine false n h = ne_eqb n 15 (λ e. omega arith)

-- no more cells are listed than mines
listed_few : (C : ℕ) (ms : List ℕ) (n m : ℕ) → count (listed_by C ms n) m ≤ n
listed_few C ms zero m = let z = count_zero (listed_by C ms 0) m (λ i h. listed_none C ms i) in omega arith
listed_few C ms (suc n) m =
    let a = count_same (listed_by C ms (suc n)) (λ i. listed_by C ms n i || eqb (mine_cell C ms n) i) m (λ i h. listed_more C ms n i) in
    let b = count_or (listed_by C ms n) (eqb (mine_cell C ms n)) m in
    let d = count_one (mine_cell C ms n) m in
    let rec = listed_few C ms n m in
    omega arith

module _ (R C : ℕ) (ms : List ℕ) (right : every (mine_ok R C ms) (mines_in ms) ≡ true) where
  pub numbered_length : length (numbered R C ms) ≡ R * C
  unfolding numbered
  numbered_length = in_order_length (numbered_at R C ms) (R * C)

  numbered_at_lem : (i : ℕ) → i < R * C → get_or (numbered R C ms) i (pos 0) ≡ numbered_at R C ms i
  unfolding numbered
  numbered_at_lem i h = in_order_at (numbered_at R C ms) (R * C) (pos 0) i h

  -- its mines are those of the list
  pub numbered_mines : (j : ℕ) → mine_at (numbered R C ms) j ≡ listed_mine C ms j
  unfolding numbered_at
  numbered_mines j = go (ltb j (R * C)) refl
    where
      go : (b : Bool) → ltb j (R * C) ≡ b → mine_at (numbered R C ms) j ≡ listed_mine C ms j
      go true e =
          ap (λ (z : ℤ). eqb (face z) 15) (numbered_at_lem j (ltb-true j (R * C) e))
          ∙ few_mine (listed_mine C ms j) (around R C (listed_mine C ms) j) (around_le R C (listed_mine C ms) j)
      go false e =
          let h : R * C ≤ j = ltb-false j (R * C) e in
          ap (λ (z : ℤ). eqb (face z) 15) (get_or-eq_default (numbered R C ms) (pos 0) (rw numbered_length h)) ∙ sym (listed_off R C ms right j h)

  numbered_values : values_ok (numbered R C ms) ≡ true
  unfolding values_ok numbered_at
  numbered_values =
      every_all (λ i. value_ok (get_or (numbered R C ms) i (pos 0))) (length (numbered R C ms))
      (λ i h.
      let l : i < R * C = rw numbered_length at h in
      ap value_ok (numbered_at_lem i l) ∙ few_value (listed_mine C ms i) (around R C (listed_mine C ms) i) (around_le R C (listed_mine C ms) i))

  number_right : (i : ℕ) → i < R * C → number_ok (numbered R C ms) R C i ≡ true
  unfolding number_ok numbered_at
  number_right i h = go (listed_mine C ms i) refl
    where
      go : (b : Bool) → listed_mine C ms i ≡ b → (mine_at (numbered R C ms) i || eqb (face_at (numbered R C ms) i) (around R C (mine_at (numbered R C ms)) i)) ≡ true
      go true e = simp (numbered_mines i, e)
      go false e =
          let n : face_at (numbered R C ms) i ≡ around R C (mine_at (numbered R C ms)) i =
          ap face (numbered_at_lem i h) ∙ ap (λ (b : Bool). face (pick b (negsuc 0) (pos (around R C (listed_mine C ms) i)))) e
          ∙ sym (around_same R C (mine_at (numbered R C ms)) (listed_mine C ms) i numbered_mines) in
          ap (λ (b : Bool). mine_at (numbered R C ms) i || b) (eq-eqb _ _ n) ∙ or-true (mine_at (numbered R C ms) i)

  numbered_numbers : numbers_ok (numbered R C ms) R C ≡ true
  unfolding numbers_ok
  numbered_numbers =
      every_all (number_ok (numbered R C ms) R C) (length (numbered R C ms)) (λ i h. let l : i < R * C = rw numbered_length at h in number_right i l)

  numbered_safe : mines_in ms < R * C → some_safe (numbered R C ms) ≡ true
  unfolding some_safe
  numbered_safe few = go (every (mine_at (numbered R C ms)) (length (numbered R C ms))) refl
    where
      go : (b : Bool) → every (mine_at (numbered R C ms)) (length (numbered R C ms)) ≡ b → not b ≡ true
      go true e =
          let all = count_all (listed_by C ms (mines_in ms)) (R * C) (λ i h.
          let l : i < length (numbered R C ms) = rw numbered_length h in
          listed_all C ms i ∙ sym (numbered_mines i) ∙ every_at (mine_at (numbered R C ms)) (length (numbered R C ms)) e i l) in
          let most = listed_few C ms (mines_in ms) (R * C) in
          absurd (omega arith)
      go false e = refl

-- the board that numbering writes passes the board check
pub numbered_accepted : (R C : ℕ) (ms : List ℕ) (B : List ℤ) → numbering_refusal R C ms B ≡ 0 → board_refusal R C true (numbered R C ms) ≡ 0
numbered_accepted R C ms B e =
    let a = numbering_accepted R C ms B e in
    sym (refused_last R C true (numbered R C ms) a.size refl (numbered_values R C ms a.right) (numbered_numbers R C ms a.right) (numbered_safe R C ms a.right a.fewer))

-- ---- the code's passes -------------------------------------------------------------------------------------------------------------------

pub cell_is : {a b c : ℕ} (C x : ℕ) → a ≡ x * C → b ≡ c → a + b ≡ cell_of C x c
cell_is C x e d = cc

module _ (R C : ℕ) (ms : List ℕ) (n : ℕ) where
  pub mine_below : R ≤ mine_row ms n → false ≡ mine_ok R C ms n
  unfolding mine_ok
  mine_below h = simp (le-ltb _ _ h)

  pub mine_beside : mine_row ms n < R → C ≤ mine_column ms n → false ≡ mine_ok R C ms n
  unfolding mine_ok
  mine_beside h k = simp (lt-ltb _ _ h, le-ltb _ _ k)

  on_board : mine_row ms n < R → mine_column ms n < C → rises C ms n ≡ mine_ok R C ms n
  unfolding mine_ok
  on_board h k = simp (lt-ltb _ _ h, lt-ltb _ _ k)

  pub mine_first : mine_row ms n < R → mine_column ms n < C → n < 1 → true ≡ mine_ok R C ms n
  mine_first h k z = first n z ∙ on_board h k
    where
      first : (m : ℕ) → m < 1 → true ≡ rises C ms m
      first zero l = refl
      first (suc m) l = absurd (omega arith)

  pub mine_after : {a b : ℕ} → mine_row ms n < R → mine_column ms n < C → 1 ≤ n → a ≡ mine_cell C ms (n - 1) → b ≡ mine_cell C ms n → ltb a b ≡ mine_ok R C ms n
  mine_after h k z e d = ap₂ ltb e d ∙ after n z ∙ on_board h k
    where
      after : (m : ℕ) → 1 ≤ m → ltb (mine_cell C ms (m - 1)) (mine_cell C ms m) ≡ rises C ms m
      after zero l = absurd (omega arith)
      after (suc m) l = let e : suc m - 1 ≡ m = omega arith in rw e refl

module _ (R C : ℕ) (ms : List ℕ) (B : List ℤ) where
  pub numbering_size : size_ok R C ≡ false → 20 ≡ numbering_refusal R C ms B
  unfolding numbering_refusal
  numbering_size s = simp s

  pub numbering_long : size_ok R C ≡ true → (length B ≡ R * C → ⊥) → 21 ≡ numbering_refusal R C ms B
  unfolding numbering_refusal
  numbering_long s l = simp (s, ne_eqb _ _ l)

  pub numbering_odd : size_ok R C ≡ true → length B ≡ R * C → (length ms % 2 ≡ 0 → ⊥) → 21 ≡ numbering_refusal R C ms B
  unfolding numbering_refusal
  numbering_odd s l o = simp (s, eq-eqb _ _ l, ne_eqb _ _ o)

  pub numbering_wrong : size_ok R C ≡ true → length B ≡ R * C → length ms % 2 ≡ 0 → every (mine_ok R C ms) (mines_in ms) ≡ false → 42 ≡ numbering_refusal R C ms B
  unfolding numbering_refusal
  numbering_wrong s l o m = simp (s, eq-eqb _ _ l, eq-eqb _ _ o, m)

  pub numbering_full : size_ok R C ≡ true → length B ≡ R * C → length ms % 2 ≡ 0 → every (mine_ok R C ms) (mines_in ms) ≡ true → length B ≤ mines_in ms
      → 24 ≡ numbering_refusal R C ms B
  unfolding numbering_refusal
  numbering_full s l o m h = let k : R * C ≤ mines_in ms = omega arith in simp (s, eq-eqb _ _ l, eq-eqb _ _ o, m, le-ltb _ _ k)

  pub numbering_passed : size_ok R C ≡ true → length B ≡ R * C → length ms % 2 ≡ 0 → every (mine_ok R C ms) (mines_in ms) ≡ true → mines_in ms < length B
      → 0 ≡ numbering_refusal R C ms B
  unfolding numbering_refusal
  numbering_passed s l o m h = let k : mines_in ms < R * C = omega arith in simp (s, eq-eqb _ _ l, eq-eqb _ _ o, m, lt-ltb _ _ k)

module _ (R C : ℕ) (B : List ℤ) (i : ℕ) where
  pub number_left : face_at B i ≡ 15 → B ≡ number_one R C B i
  unfolding number_one
  number_left e = simp (eq-eqb _ _ e)

  pub number_stored : (n : ℕ) → n ≤ 8 → (face_at B i ≡ 15 → ⊥) → n ≡ around R C (face_is B 15) (cell_of C (i / C) (i % C)) → set B i (to_z w8 n) ≡ number_one R C B i
  unfolding number_one
  number_stored n h ne e =
      let d = e ∙ ap (around R C (face_is B 15)) (cell_back C i) ∙ around_same R C (face_is B 15) (mine_at B) i (mine_face B) in
      ap (set B i) (to_z_pos w8 {n = n} (omega arith)) ∙ ap (λ (k : ℕ). set B i (pos k)) d ∙ sym (ap (λ (b : Bool). pick b B (set B i (pos (around R C (mine_at B) i)))) (ne_eqb _ _ ne))

-- numbering that is refused writes nothing
pub numbering_refused : (R C : ℕ) (ms : List ℕ) (B : List ℤ) (r : Refusal) → refusal_number r ≡ numbering_refusal R C ms B
    → ◌≡◌ {A = Numbered} (record { number = refusal_number r; board = B }) (numbering_of R C ms B)
unfolding numbering_of
numbering_refused R C ms B r e = simp (← e, ne_eqb (refusal_number r) 0 (never_0 r))

pub placed_more : (C : ℕ) (ms : List ℕ) (n : ℕ) (B A : List ℤ) (q : ℕ) → A ≡ placed C ms n B → q ≡ mine_cell C ms n → set A q (negsuc 0) ≡ placed C ms (n + 1) B
unfolding placed
placed_more C ms n B A q e d = rw add-one (ap₂ (λ (l : List ℤ) (k : ℕ). set l k (negsuc 0)) e d)

pub number_first_more : (R C n : ℕ) (B A A' : List ℤ) → A ≡ number_first R C n B → A' ≡ number_one R C A n → A' ≡ number_first R C (n + 1) B
unfolding number_first
number_first_more R C n B A A' e d = rw add-one (d ∙ ap (λ (l : List ℤ). number_one R C l n) e)

pub number_one_mined : (R C : ℕ) (B : List ℤ) (i : ℕ) → Mined B R C → i < R * C → Mined (number_one R C B i) R C
number_one_mined R C B i m h = (number_one_lem R C B i m h).mined

pub placed_end : (C : ℕ) (ms : List ℕ) (n m : ℕ) (B A : List ℤ) → A ≡ placed C ms n B → n ≡ m → A ≡ placed C ms m B
placed_end C ms n m B A e d = e ∙ ap (λ (k : ℕ). placed C ms k B) d

pub number_first_end : (R C n : ℕ) (B A : List ℤ) → A ≡ number_first R C n B → n ≡ R * C → A ≡ number_first R C (R * C) B
number_first_end R C n B A e d = e ∙ ap (λ (k : ℕ). number_first R C k B) d
