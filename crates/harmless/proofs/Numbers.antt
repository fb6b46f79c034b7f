-- A number tells of its neighbours: where its flags and closed neighbours are as many as it says, the closed ones are mines; where its flags
-- alone are, and stand on mines, the closed ones are safe. The idea: of two sets of places, one within the other and as many, neither has more.
use mathlib.Core.Path.{◌≡◌, ◌∙◌, sym, ap, refl, subst, subst⁻¹}
use mathlib.Core.Bool.{Bool, true, false, ◌||◌, false≢true}
use mathlib.Core.List.{List}
use Prim.Native.Nat.{ℕ, ◌+◌, ◌*◌, ◌<◌, ◌≤◌}
use native.Mathlib.Omega.{arith}
use native.Mathlib.Decide.{dec_lt}
use borrow.Author.Tests.{eqb-true, ne_eqb, le-leb, leb-true, ltb-true}
use lib.Dec.{eqb, leb, ltb}
use lib.IntN.{ℤ, pos}
use lib.ListN.{length, get_or, get_or-eq_default}
use Rattle.rules.specs.declared.Settings.{Settings}
use Rattle.rules.specs.declared.GameState.{GameState}
use Rattle.rules.specs.declared.GameState.TheVariants.{Playing}
use Rattle.rules.specs.Words.{pick, bit, count}
use Rattle.rules.specs.States.{is_loss}
use Rattle.rules.specs.Grid.{neighbour, around}
use Rattle.rules.specs.Board.{face, face_at, mine_at, number_ok, numbers_ok}
use Rattle.rules.specs.Opening.{closed_at}
use Rattle.rules.specs.Clicks.{Desk, flag_at, chord_is_useful}
use Rattle.rules.specs.Passes.{ripe_at}
use Rattle.rules.specs.Lawful.{cell_lawful}
use Rattle.cells.specs.Ground.{Valued}
use Rattle.cells.proofs.Words.{and_left, and_right, false_unless, count_zero, every_at}
use Rattle.opening.proofs.Lists.{count_sum, count_less}
use Rattle.flagging.proofs.Ripeness.{ripe_parts}
use Rattle.harmless.specs.Harmless.{Fair, FlagsOnMines, AllSpared}
use Rattle.harmless.proofs.Spared.{spared_lawful, Calm}

-- ---- what one cell may show --------------------------------------------------------------------------------------------------------------

-- an open cell shows its own number
pub own_number : (q loss : Bool) (f x : ℕ) → x ≤ 8 → cell_lawful q loss f x ≡ true → x ≡ f
unfolding cell_lawful
own_number q loss f x h e = eqb-true x f (rw (le-leb x 8 h) at e)

-- a mine shows 11 or 10 before the end, unless a question mark stands on it
shows_by : (a b c d e g u q : Bool) → (a ≡ true → u ≡ false) → (d ≡ true → ⊥) → pick a u (pick b true (pick c true (pick d q (pick e false (pick g false false))))) ≡ true
    → (c || b) ≡ true
shows_by true b c d e g u q z n h = absurd (false≢true (sym (z refl) ∙ h))
shows_by false b true d e g u q z n h = refl
shows_by false true false d e g u q z n h = refl
shows_by false false false true e g u q z n h = absurd (n refl)
shows_by false false false false true g u q z n h = absurd (false≢true h)
shows_by false false false false false true u q z n h = absurd (false≢true h)
shows_by false false false false false false u q z n h = absurd (false≢true h)

mine_shows : (q : Bool) (x : ℕ) → (x ≡ 17 → ⊥) → cell_lawful q false 15 x ≡ true → (eqb x 11 || eqb x 10) ≡ true
unfolding cell_lawful
mine_shows q x n e =
    shows_by (leb x 8) (eqb x 10) (eqb x 11) (eqb x 17) (eqb x 14) (eqb x 15) (eqb x 15) q (λ a. ne_eqb x 15 (λ z. let y = leb-true x 8 a in omega arith))
    (λ t. n (eqb-true x 17 t)) e

-- 11 and 10 are apart
apart : (x : ℕ) → bit (eqb x 11) + bit (eqb x 10) ≡ bit (eqb x 11 || eqb x 10) + bit false
apart x = go (eqb x 11) (eqb x 10) refl refl
  where
    go : (a b : Bool) → eqb x 11 ≡ a → eqb x 10 ≡ b → bit a + bit b ≡ bit (a || b) + bit false
    go true true e d = let p = eqb-true x 11 e in let q = eqb-true x 10 d in absurd (omega arith)
    go true false e d = refl
    go false true e d = refl
    go false false e d = refl

-- ---- places counted ----------------------------------------------------------------------------------------------------------------------

-- as many, and one within the other: the other within the one
filled : (f g : ℕ → Bool) (n : ℕ) → ((k : ℕ) → k < n → f k ≡ true → g k ≡ true) → count f n ≡ count g n → (k : ℕ) → k < n → g k ≡ true → f k ≡ true
filled f g n sub e k lt h = go (f k) refl
  where
    go : (t : Bool) → f k ≡ t → f k ≡ true
    go true d = d
    go false d = let l = count_less f g n k lt d h sub in absurd (omega arith)

or_right : (a b : Bool) → b ≡ true → (a || b) ≡ true
or_right true b e = refl
or_right false b e = e

-- flags and closed cells around a cell, together
either_counts : (R C : ℕ) (l : List ℕ) (i : ℕ)
    → around R C (flag_at l) i + around R C (closed_at l) i ≡ count (λ k. flag_at l (neighbour R C i k) || closed_at l (neighbour R C i k)) 8
unfolding around
either_counts R C l i =
    let z = count_zero (λ _. false) 8 (λ _ _. refl) in
    let s = count_sum (λ k. flag_at l (neighbour R C i k)) (λ k. closed_at l (neighbour R C i k)) (λ k. flag_at l (neighbour R C i k) || closed_at l (neighbour R C i k)) (λ _. false) 8
    (λ k _. apart (get_or l (neighbour R C i k) 0)) in
    omega arith

-- ---- a fair desk before the end ----------------------------------------------------------------------------------------------------------

-- what is fair in a shown board l while nothing is lost
pub record Honest (B : List ℤ) (s : Settings) (l : List ℕ) : Type 0 where
  pub valued : Valued B
  pub numbers : numbers_ok B s.rows s.columns ≡ true
  pub long : length B ≡ length l
  pub size : length l ≡ s.rows * s.columns
  pub cells : (i : ℕ) → i < length l → cell_lawful s.question false (face_at B i) (get_or l i 0) ≡ true

pub honest_by : {B : List ℤ} {d : Desk} → Fair B d → d.position.game ≡ Playing → Honest B d.position.settings d.shown
honest_by {B} {d} f g = record {
  valued = f.board.valued;
  numbers = f.numbers;
  long = f.board.long ∙ sym f.size;
  size = f.size;
  cells = subst (λ (g : GameState). (i : ℕ) → i < length d.shown → cell_lawful d.position.settings.question (is_loss g) (face_at B i) (get_or d.shown i 0) ≡ true) g f.cells;
}

-- what spares every cell leaves it so
pub honest_on : {B : List ℤ} {s : Settings} {l l' : List ℕ} → Honest B s l → AllSpared B l l' → length l' ≡ length l → Honest B s l'
honest_on {s = s} t a e = record {
  valued = t.valued;
  numbers = t.numbers;
  long = t.long ∙ sym e;
  size = e ∙ t.size;
  cells = λ i lt. spared_lawful t.valued s.question (a i) (t.cells i (omega arith));
}

-- so does what is calm
pub honest_after : {B : List ℤ} {d e : Desk} → Honest B d.position.settings d.shown → Calm B d e → Honest B e.position.settings e.shown
honest_after {B} {d} {e} t c = subst⁻¹ (λ (s : Settings). Honest B s e.shown) c.settings (honest_on t c.harmless.cells c.long)

-- ---- what a number tells -----------------------------------------------------------------------------------------------------------------

mine_in : (B : List ℤ) (i : ℕ) → mine_at B i ≡ true → i < length B
mine_in B i e = go (dec_lt i (length B))
  where
    go : Dec (i < length B) → i < length B
    go (yes h) = h
    go (no h) = absurd (false≢true (ap (λ (z : ℤ). eqb (face z) 15) (sym (get_or-eq_default B (pos 0) (omega arith))) ∙ e))

open_in : (l : List ℕ) (i : ℕ) → 1 ≤ get_or l i 0 → i < length l
open_in l i h = go (dec_lt i (length l))
  where
    go : Dec (i < length l) → i < length l
    go (yes lt) = lt
    go (no ge) = let z : get_or l i 0 ≡ 0 = get_or-eq_default l 0 (omega arith) in absurd (omega arith)

-- right numbers, and open cells that show their own
pub record OwnNumbers (B : List ℤ) (R C : ℕ) (l : List ℕ) : Type 0 where
  pub numbers : numbers_ok B R C ≡ true
  pub long : length B ≡ length l
  pub own : (i : ℕ) → i < length l → get_or l i 0 ≤ 8 → get_or l i 0 ≡ face_at B i

pub honest_own : {B : List ℤ} {s : Settings} {l : List ℕ} → Honest B s l → OwnNumbers B s.rows s.columns l
honest_own {B} {s} {l} t = record {
  numbers = t.numbers;
  long = t.long;
  own = λ i lt le. own_number s.question false (face_at B i) (get_or l i 0) le (t.cells i lt);
}

module _ {B : List ℤ} {R C : ℕ} {l : List ℕ} (t : OwnNumbers B R C l) where
  -- an open cell shows how many mines are around it
  number_mines : (i : ℕ) → i < length l → get_or l i 0 ≤ 8 → get_or l i 0 ≡ around R C (mine_at B) i
  unfolding numbers_ok number_ok
  number_mines i lt le =
      let o = t.own i lt le in
      let p = every_at (number_ok B R C) (length B) t.numbers i (omega (arith, t.long)) in
      let m : mine_at B i ≡ false = ne_eqb (face_at B i) 15 (λ e. omega arith) in
      o ∙ eqb-true _ _ (ap (λ (t : Bool). t || eqb (face_at B i) (around R C (mine_at B) i)) (sym m) ∙ p)

  -- THE LAW of a number whose flags are as many as it says: with every flag on a mine, the closed neighbours are safe
  pub full_safe : FlagsOnMines B l → (i : ℕ) → i < length l → get_or l i 0 ≤ 8 → around R C (flag_at l) i ≡ get_or l i 0
      → (k : ℕ) → k < 8 → closed_at l (neighbour R C i k) ≡ true → mine_at B (neighbour R C i k) ≡ false
  unfolding around
  full_safe f i lt le same k k8 e =
      let at : ℕ → ℕ = neighbour R C i in
      false_unless (mine_at B (at k))
      (λ m.
      let g = filled (λ k. flag_at l (at k)) (λ k. mine_at B (at k)) 8 (λ k _ t. f (at k) (eqb-true _ 11 t)) (same ∙ number_mines i lt le) k k8 m in
      let p = eqb-true (get_or l (at k) 0) 11 g in
      let q = eqb-true (get_or l (at k) 0) 10 e in
      omega arith)

  pub useful_safe : FlagsOnMines B l → (i : ℕ) → i < length l → chord_is_useful R C l i ≡ true
      → (k : ℕ) → k < 8 → closed_at l (neighbour R C i k) ≡ true → mine_at B (neighbour R C i k) ≡ false
  unfolding chord_is_useful
  useful_safe f i lt u =
      let low = ltb-true (get_or l i 0) 8 (and_left (ltb (get_or l i 0) 8) _ u) in
      full_safe f i lt (omega arith) (eqb-true _ _ (and_left _ _ (and_right (ltb (get_or l i 0) 8) _ u)))

module _ {B : List ℤ} {s : Settings} {l : List ℕ} (t : Honest B s l) (q : (i : ℕ) → get_or l i 0 ≡ 17 → ⊥) where
  -- a mine shows 11 or 10
  mine_hidden : (i : ℕ) → mine_at B i ≡ true → (flag_at l i || closed_at l i) ≡ true
  mine_hidden i m =
      let lt : i < length l = let a = mine_in B i m in omega (arith, t.long) in
      mine_shows s.question (get_or l i 0) (q i) (ap (λ (f : ℕ). cell_lawful s.question false f (get_or l i 0)) (sym (eqb-true (face_at B i) 15 m)) ∙ t.cells i lt)

  -- THE LAW of a ripe number, whose flags and closed neighbours are as many as it says: the closed neighbours are mines
  pub ripe_mines : (i : ℕ) → ripe_at s.rows s.columns l i ≡ true
      → (k : ℕ) → k < 8 → closed_at l (neighbour s.rows s.columns i k) ≡ true → mine_at B (neighbour s.rows s.columns i k) ≡ true
  unfolding around
  ripe_mines i r k k8 e =
      let R : ℕ = s.rows in
      let C : ℕ = s.columns in
      let p = ripe_parts R C l i r in
      let nm = number_mines (honest_own t) i (open_in l i p.low) p.high in
      filled (λ k. mine_at B (neighbour R C i k)) (λ k. flag_at l (neighbour R C i k) || closed_at l (neighbour R C i k)) 8
      (λ k _. mine_hidden (neighbour R C i k)) (sym nm ∙ p.sum ∙ either_counts R C l i) k k8
      (or_right (flag_at l (neighbour R C i k)) (closed_at l (neighbour R C i k)) e)
