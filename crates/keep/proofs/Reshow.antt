-- One cell shown anew, from one hidden value to another, keeps the position sound; a new flag, a flag taken back, a question mark taken back.
use mathlib.Core.Path.{◌≡◌, ◌∙◌, sym, ap, refl, subst, subst⁻¹}
use mathlib.Core.Bool.{Bool, true, false, not, ◌&&◌}
use mathlib.Core.List.{List}
use Prim.Native.Nat.{ℕ, ◌+◌, ◌/◌, ◌<◌, ◌≤◌}
use native.Mathlib.Omega.{arith}
use native.Mathlib.Decide.{ℕ_discrete}
use borrow.Author.Tests.{leb-true, lt-leb, not-true}
use lib.Dec.{eqb, leb}
use lib.IntN.{ℤ}
use lib.ListN.{length, get_or, set, length-set}
use lib.Seq.{get_or-set_same, get_or-set_other}
use Rattle.rules.specs.declared.Settings.{Settings}
use Rattle.rules.specs.declared.Counts.{Counts}
use Rattle.rules.specs.declared.Secrets.{Secrets}
use Rattle.rules.specs.Words.{pick, bit}
use Rattle.rules.specs.Board.{face_at, mine_at}
use Rattle.rules.specs.Lent.{bit_at, with_bit}
use Rattle.rules.specs.Opening.{count_shown, is_open}
use Rattle.rules.specs.Clicks.{bits_with}
use Rattle.rules.specs.Lawful.{shows, is_flag, is_open_or_hit, cell_lawful}
use Rattle.cells.proofs.Words.{and_left, and_right}
use Rattle.bits.proofs.Bits.{bit_kept, bit_length}
use Rattle.keep.specs.Kept.{Ground, Bounded, Sound}
use Rattle.keep.proofs.Counting.{shown_set, shown_some}
use Rattle.keep.proofs.Unopened.{unopened_set}
use Rattle.keep.proofs.Fresh.{closed_lawful}

-- 10, 11 and 17: neither open nor the end of a game
pub record Hidden (x : ℕ) : Type 0 where
  pub shut : is_open x ≡ false
  pub unhit : is_open_or_hit x ≡ false
  pub not14 : shows 14 x ≡ false
  pub not15 : shows 15 x ≡ false

pub hidden : (x : ℕ) → (leb 10 x && (not (eqb x 14) && not (eqb x 15))) ≡ true → Hidden x
hidden x e =
    let a = and_right (leb 10 x) _ e in
    let h = leb-true 10 x (and_left (leb 10 x) _ e) in
    let c = lt-leb x 8 (omega arith) in
    let n = not-true (eqb x 15) (and_right (not (eqb x 14)) _ a) in
    record { shut = c; unhit = rw (c, n); not14 = not-true (eqb x 14) (and_left (not (eqb x 14)) _ a); not15 = n }

-- what the counts and the bits must meet where cell i goes from x to v, and the bound from n to m
pub record Change (n m : ℕ) (B : List ℤ) (loss : Bool) (s : Settings) (i x v : ℕ) (c c' : Counts) (k k' : Secrets) (b b' : List ℕ) : Type 0 where
  pub bounded : Bounded m c' k'
  pub double : c'.double + n ≤ c.double + m
  pub solved : k'.solved_left + k'.solved_chord ≡ k.solved_left + k.solved_chord
  pub flag : c'.flag + bit (is_flag x) ≡ c.flag + bit (is_flag v)
  pub unopened : c'.unopened ≡ c.unopened
  pub here : cell_lawful s.question loss (face_at B i) v ≡ true
  pub room : length b' ≡ length b
  pub mines : (j : ℕ) → bit_at b' j ≡ true → mine_at B j ≡ true

pub reshow : {n m : ℕ} {B : List ℤ} {loss : Bool} {s : Settings} {c c' : Counts} {k k' : Secrets} {l b b' : List ℕ} (i x v : ℕ)
    → i < length l → get_or l i 0 ≡ x → Hidden x → Hidden v → Change n m B loss s i x v c c' k k' b b' → Sound n B loss s c k l b
    → Sound m B loss s c' k' (set l i v) b'
reshow {n} {m} {B} {loss} {s} {c} {c'} {k} {k'} {l} {b} {b'} i x v lt e hx hv ch h =
    let len : length (set l i v) ≡ length l = length-set l i v in
    let same : (f : ℕ → Bool) → f x ≡ false → f v ≡ false → count_shown f (set l i v) ≡ count_shown f l =
    λ f fx fv.
    let a = shown_set f l i x v lt e in
    let u : bit (f x) ≡ 0 = ap bit fx in
    let w : bit (f v) ≡ 0 = ap bit fv in
    omega arith in
    record {
      ground = record { mined = h.ground.mined; numbers = h.ground.numbers; board = len ∙ h.ground.board; room = ch.room ∙ h.ground.room };
      bounded = ch.bounded;
      double = let a = h.double in let z = ch.double in let o = same is_open_or_hit hx.unhit hv.unhit in omega arith;
      solved = let a = h.solved in let z = ch.solved in let o = same is_open hx.shut hv.shut in omega arith;
      flag = let a = h.flag in let z = ch.flag in let o = shown_set is_flag l i x v lt e in omega arith;
      unopened = ch.unopened ∙ h.unopened ∙ sym (unopened_set B l i x v lt e (hv.shut ∙ sym hx.shut));
      wrong = λ some.
          let o = same (shows 14) hx.not14 hv.not14 in
          let o' = same (shows 15) hx.not15 hv.not15 in
          let w = h.wrong (omega arith) in omega arith;
      cells = λ j lt'. cell_by_lem j (subst (λ (y : ℕ). j < y) len lt') (ℕ_discrete j i);
      mines = ch.mines;
    }
  where
    cell_by_lem : (j : ℕ) → j < length l → Dec (j ≡ i) → cell_lawful s.question loss (face_at B j) (get_or (set l i v) j 0) ≡ true
    cell_by_lem j jl (yes q) =
        subst⁻¹ (λ (j : ℕ). cell_lawful s.question loss (face_at B j) (get_or (set l i v) j 0) ≡ true) q
        (ap (λ (y : ℕ). cell_lawful s.question loss (face_at B i) y) (get_or-set_same l i v 0 lt) ∙ ch.here)
    cell_by_lem j jl (no q) = ap (λ (y : ℕ). cell_lawful s.question loss (face_at B j) y) (get_or-set_other l i j v 0 q) ∙ h.cells j jl

-- ---- what a cell may show --------------------------------------------------------------------------------------------------------------

pub flag_lawful : (q loss : Bool) (f : ℕ) → cell_lawful q loss f 11 ≡ true
unfolding cell_lawful
flag_lawful q loss f = refl

asked_lawful : (loss : Bool) (f : ℕ) → cell_lawful true loss f 17 ≡ true
unfolding cell_lawful
asked_lawful loss f = refl

-- a flag taken back shows 17 where question marks are on, else 10
pub back_hidden : (q : Bool) → Hidden (pick q 17 10)
back_hidden true = hidden 17 refl
back_hidden false = hidden 10 refl

pub back_lawful : (q loss : Bool) (f : ℕ) → cell_lawful q loss f (pick q 17 10) ≡ true
back_lawful true loss f = asked_lawful loss f
back_lawful false loss f = closed_lawful false loss f

-- ---- the bits after a new flag ---------------------------------------------------------------------------------------------------------

pub bits_length : (B : List ℤ) (b : List ℕ) (i : ℕ) → length (bits_with B b i) ≡ length b
unfolding bits_with
bits_length B b i = go (mine_at B i)
  where
    go : (t : Bool) → length (pick t (with_bit b i) b) ≡ length b
    go true = bit_length b i
    go false = refl

pub bits_mines : (B : List ℤ) (b : List ℕ) (i : ℕ) → i / 8 < length b → ((j : ℕ) → bit_at b j ≡ true → mine_at B j ≡ true)
    → (j : ℕ) → bit_at (bits_with B b i) j ≡ true → mine_at B j ≡ true
unfolding bits_with
bits_mines B b i lt h j = go (mine_at B i) refl (ℕ_discrete i j)
  where
    go : (t : Bool) → mine_at B i ≡ t → Dec (i ≡ j) → bit_at (pick t (with_bit b i) b) j ≡ true → mine_at B j ≡ true
    go true e (yes q) u = ap (mine_at B) (sym q) ∙ e
    go true e (no q) u = h j (sym (bit_kept b i j lt q) ∙ u)
    go false e q u = h j u

pub bit_in : {B : List ℤ} {s : Settings} {l b : List ℕ} → Ground B s l b → (i : ℕ) → i < length l → i / 8 < length b
bit_in g i h = let a = g.board in let e = g.room in omega arith

-- a shown 11 is counted
pub flag_has : {n : ℕ} {B : List ℤ} {loss : Bool} {s : Settings} {c : Counts} {k : Secrets} {l b : List ℕ}
    → Sound n B loss s c k l b → (i : ℕ) → i < length l → get_or l i 0 ≡ 11 → 1 ≤ c.flag
flag_has {l = l} h i lt e = let a = shown_some is_flag l i lt (ap is_flag e) in let f = h.flag in omega arith
