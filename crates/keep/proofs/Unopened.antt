-- The safe cells still closed: their number on two boards, after an opening and at a fresh start; and that Win can be read from it.
use mathlib.Core.Path.{◌≡◌, ◌∙◌, sym, ap, refl}
use mathlib.Core.Bool.{Bool, true, false, not, ◌||◌, true≢false, false≢true}
use mathlib.Core.List.{List}
use Prim.Native.Nat.{ℕ, zero, suc, ◌+◌, ◌-◌, ◌<◌, ◌≤◌}
use native.Mathlib.Omega.{arith}
use native.Mathlib.Decide.{ℕ_discrete}
use borrow.Author.Tests.{eq-eqb, ne_eqb, eqb-true, leb-true, not-false}
use lib.Dec.{eqb, leb}
use lib.IntN.{ℤ}
use lib.ListN.{length, get_or, set, replicate, length-set, length-replicate, get_or-replicate}
use lib.Seq.{get_or-set_same, get_or-set_other}
use Rattle.rules.specs.Words.{pick, bit, count, every}
use Rattle.rules.specs.Board.{mine_at, safe_in}
use Rattle.rules.specs.Opening.{count_shown, is_open, opened_in}
use Rattle.rules.specs.Lawful.{done_at, is_won, unopened_in, cell_lawful}
use Rattle.cells.proofs.Words.{count_same, count_zero, count_none, every_at, every_all}

-- ---- Win -------------------------------------------------------------------------------------------------------------------------------

-- every number passes where none that fails is counted
every_counted : (f : ℕ → Bool) (n : ℕ) → every f n ≡ eqb (count (λ i. not (f i)) n) 0
every_counted f n = go (every f n) refl
  where
    go : (b : Bool) → every f n ≡ b → b ≡ eqb (count (λ i. not (f i)) n) 0
    go true e = sym (eq-eqb _ _ (count_zero (λ i. not (f i)) n (λ i h. ap not (every_at f n e i h))))
    go false e =
        sym (ne_eqb _ _ (λ z. false≢true (sym e ∙ every_all f n (λ i h. not-false (f i) (count_none (λ i. not (f i)) n z i h)))))

-- WON-READ: where the number is right it is 0 exactly where no safe cell is left
pub won_read : (B : List ℤ) (shown : List ℕ) (n : ℕ) → n ≡ unopened_in B shown → is_won B shown ≡ eqb n 0
unfolding is_won unopened_in
won_read B shown n e = every_counted (done_at B shown) (length shown) ∙ ap (λ (m : ℕ). eqb m 0) (sym e)

-- boards with equally many of them are won alike
pub won_same : (B : List ℤ) (l l' : List ℕ) → unopened_in B l' ≡ unopened_in B l → is_won B l' ≡ is_won B l
won_same B l l' e = won_read B l' _ refl ∙ ap (λ (m : ℕ). eqb m 0) e ∙ sym (won_read B l _ refl)

-- ---- cells that are open on both boards or on neither ------------------------------------------------------------------------------------

unopened_same : (B : List ℤ) (l l' : List ℕ) → length l' ≡ length l → ((i : ℕ) → i < length l → is_open (get_or l' i 0) ≡ is_open (get_or l i 0))
    → unopened_in B l' ≡ unopened_in B l
unfolding unopened_in
unopened_same B l l' n h =
    ap (count (λ i. not (done_at B l' i))) n
    ∙ count_same (λ i. not (done_at B l' i)) (λ i. not (done_at B l i)) (length l) (λ i lt. ap (λ (t : Bool). not (mine_at B i || t)) (h i lt))

pub unopened_set : (B : List ℤ) (l : List ℕ) (i x v : ℕ) → i < length l → get_or l i 0 ≡ x → is_open v ≡ is_open x → unopened_in B (set l i v) ≡ unopened_in B l
unopened_set B l i x v lt e w = unopened_same B l (set l i v) (length-set l i v) (λ j _. go j (ℕ_discrete j i))
  where
    go : (j : ℕ) → Dec (j ≡ i) → is_open (get_or (set l i v) j 0) ≡ is_open (get_or l j 0)
    go j (yes q) =
        ap (λ (y : ℕ). is_open (get_or (set l i v) y 0)) q ∙ ap is_open (get_or-set_same l i v 0 lt) ∙ w
        ∙ ap is_open (sym e) ∙ ap (λ (y : ℕ). is_open (get_or l y 0)) (sym q)
    go j (no q) = ap is_open (get_or-set_other l i j v 0 q)

-- ---- an opening --------------------------------------------------------------------------------------------------------------------------

-- two tests that share no number count together what a third counts
count_split : (f g h : ℕ → Bool) (n : ℕ) → ((i : ℕ) → i < n → bit (f i) + bit (g i) ≡ bit (h i)) → count f n + count g n ≡ count h n
unfolding count
count_split f g h zero e = refl
count_split f g h (suc n) e = let a = count_split f g h n (λ i l. e i (omega arith)) in let b = e n (omega arith) in omega arith

-- open cells are safe
abbrev pub OpenSafe : List ℤ → List ℕ → Type 0
OpenSafe B l = (i : ℕ) → i < length l → is_open (get_or l i 0) ≡ true → mine_at B i ≡ false

pick_first : (t a b : Bool) → t ≡ true → pick t a b ≡ true → a ≡ true
pick_first true a b e h = h
pick_first false a b e h = absurd (false≢true e)

-- so they are where every cell shows what it may
pub open_safe : (q loss : Bool) (f x : ℕ) → cell_lawful q loss f x ≡ true → is_open x ≡ true → eqb f 15 ≡ false
unfolding cell_lawful
open_safe q loss f x e o =
    let h = leb-true x 8 o in
    let d = eqb-true x f (pick_first (leb x 8) (eqb x f) _ o e) in
    ne_eqb f 15 (λ z. omega arith)

-- with the open cells they are the safe ones
pub unopened_open : (B : List ℤ) (l : List ℕ) → OpenSafe B l → unopened_in B l + count_shown is_open l ≡ count (λ i. not (mine_at B i)) (length l)
unfolding unopened_in count_shown
unopened_open B l s =
    count_split (λ i. not (done_at B l i)) (λ i. is_open (get_or l i 0)) (λ i. not (mine_at B i)) (length l)
    (λ i lt. cell (mine_at B i) (is_open (get_or l i 0)) (s i lt))
  where
    cell : (m o : Bool) → (o ≡ true → m ≡ false) → bit (not (m || o)) + bit o ≡ bit (not m)
    cell true true h = absurd (true≢false (h refl))
    cell true false h = refl
    cell false true h = refl
    cell false false h = refl

-- so their number falls by what is opened, and what is opened is what it fell by
module _ (B : List ℤ) (l l' : List ℕ) (long : length l' ≡ length l) (s : OpenSafe B l) (s' : OpenSafe B l') (more : count_shown is_open l ≤ count_shown is_open l') where
  both : unopened_in B l' + count_shown is_open l' ≡ unopened_in B l + count_shown is_open l
  both = unopened_open B l' s' ∙ ap (count (λ i. not (mine_at B i))) long ∙ sym (unopened_open B l s)

  pub unopened_falls : unopened_in B l - opened_in l l' ≡ unopened_in B l'
  unopened_falls = omega (arith, both)

  pub unopened_less : unopened_in B l' ≤ unopened_in B l
  unopened_less = omega (arith, both)

  pub opened_fell : unopened_in B l - unopened_in B l' ≡ opened_in l l'
  opened_fell = omega (arith, both)

-- ---- a fresh start -----------------------------------------------------------------------------------------------------------------------

or_none : (a c : Bool) → c ≡ false → (a || c) ≡ a
or_none true c e = refl
or_none false c e = e

-- every safe cell is closed
pub unopened_fresh : (B : List ℤ) (n : ℕ) → length B ≡ n → safe_in B ≡ unopened_in B (replicate n 10)
unfolding safe_in unopened_in
unopened_fresh B n long =
    count_same (λ i. not (mine_at B i)) (λ i. not (done_at B (replicate n 10) i)) (length B)
    (λ i h. ap not (sym (or_none (mine_at B i) _ (ap is_open (get_or-replicate n i 10 0 (omega arith))))))
    ∙ ap (count (λ i. not (done_at B (replicate n 10) i))) (long ∙ sym (length-replicate n 10))
