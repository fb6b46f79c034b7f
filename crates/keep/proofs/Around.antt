-- The eight neighbours of a cell are different cells, so that what is counted around a cell is counted on the board.
use mathlib.Core.Path.{◌≡◌, ◌∙◌, sym, ap, refl}
use mathlib.Core.Bool.{Bool, true, false, not, ◌&&◌, false≢true}
use mathlib.Core.List.{List}
use Prim.Native.Nat.{ℕ, zero, suc, ◌+◌, ◌-◌, ◌*◌, ◌/◌, ◌%◌, ◌<◌, ◌≤◌}
use native.Mathlib.Omega.{arith}
use borrow.Author.Tests.{eq-eqb, ne_eqb, leb-true, leb-false}
use lib.Arith.{digits_div, digits_mod}
use lib.Dec.{eqb, leb}
use Rattle.rules.specs.Words.{pick, bit, count}
use Rattle.rules.specs.Grid.{cell_of, ninth, cell_before, neighbour, push_if, pushed}
use Rattle.cells.proofs.Words.{and_left, and_right, count_same, count_change}
use Rattle.judging.specs.Joining.{among}

-- ---- counting along a map --------------------------------------------------------------------------------------------------------------

-- p without one place
without : (ℕ → Bool) → ℕ → ℕ → Bool
without p q j = p j && not (eqb j q)

without_at : (p : ℕ → Bool) (q : ℕ) → without p q q ≡ false
unfolding without
without_at p q = go (p q)
  where
    go : (t : Bool) → (t && not (eqb q q)) ≡ false
    go true = ap not (eq-eqb q q refl)
    go false = refl

without_off : (p : ℕ → Bool) (q j : ℕ) → (j ≡ q → ⊥) → without p q j ≡ p j
unfolding without
without_off p q j ne = go (p j)
  where
    go : (t : Bool) → (t && not (eqb j q)) ≡ t
    go true = ap not (ne_eqb j q ne)
    go false = refl

without_of : (p : ℕ → Bool) (q j : ℕ) → without p q j ≡ true → p j ≡ true
unfolding without
without_of p q j e = and_left (p j) (not (eqb j q)) e

-- different places that pass a test below N are at most as many as all that pass it below N
pub count_along : (p : ℕ → Bool) (g : ℕ → ℕ) (N n : ℕ) → ((k : ℕ) → k < n → p (g k) ≡ true → g k < N)
    → ((k l : ℕ) → k < l → l < n → p (g k) ≡ true → p (g l) ≡ true → g k ≡ g l → ⊥) → count (λ k. p (g k)) n ≤ count p N
unfolding count
count_along p g N zero below apart = omega arith
count_along p g N (suc n) below apart =
    go (p (g n)) refl (count_along p g N n (λ k h. below k (omega arith)) (λ k l h m. apart k l h (omega arith)))
    (λ t. count_along (without p (g n)) g N n (λ k h e. below k (omega arith) (without_of p (g n) (g k) e))
    (λ k l h m a b. apart k l h (omega arith) (without_of p (g n) (g k) a) (without_of p (g n) (g l) b)))
  where
    go : (t : Bool) → p (g n) ≡ t → count (λ k. p (g k)) n ≤ count p N → (Unit {0} → count (λ k. without p (g n) (g k)) n ≤ count (without p (g n)) N)
        → count (λ k. p (g k)) n + bit t ≤ count p N
    go true e rec less =
        let a = less tt in
        let s : count (λ k. p (g k)) n ≡ count (λ k. without p (g n) (g k)) n =
        count_same (λ k. p (g k)) (λ k. without p (g n) (g k)) n (λ k h. at k h (p (g k)) refl) in
        let c = count_change p (without p (g n)) (g n) (without_off p (g n)) N (below n (omega arith) e) in
        let u : bit (p (g n)) ≡ 1 = ap bit e in
        let w : bit (without p (g n) (g n)) ≡ 0 = ap bit (without_at p (g n)) in
        omega arith
      where
        at : (k : ℕ) → k < n → (t : Bool) → p (g k) ≡ t → p (g k) ≡ without p (g n) (g k)
        at k h true d = sym (without_off p (g n) (g k) (apart k n h (omega arith) d e))
        at k h false d = go' (without p (g n) (g k)) refl
          where
            go' : (u : Bool) → without p (g n) (g k) ≡ u → p (g k) ≡ without p (g n) (g k)
            go' true z = absurd (false≢true (sym d ∙ without_of p (g n) (g k) z))
            go' false z = d ∙ sym z
    go false e rec less = let a = rec in omega arith

-- ---- neighbours ------------------------------------------------------------------------------------------------------------------------

-- a cell one row above and one column before, where it is on the board
record Before (R C r c : ℕ) : Type 0 where
  pub row : 1 ≤ r
  pub column : 1 ≤ c
  pub within : c ≤ C
  pub is : cell_before R C r c ≡ cell_of C (r - 1) (c - 1)

before : (R C r c : ℕ) → cell_before R C r c < R * C → Before R C r c
unfolding cell_before
before R C r c = go (leb 1 r && (leb r R && (leb 1 c && leb c C))) refl
  where
    go : (t : Bool) → (leb 1 r && (leb r R && (leb 1 c && leb c C))) ≡ t → pick t (cell_of C (r - 1) (c - 1)) (R * C) < R * C → Before R C r c
    go true e h =
        let a = and_right (leb 1 r) _ e in
        let b = and_right (leb r R) _ a in
        record {
          row = leb-true 1 r (and_left (leb 1 r) _ e);
          column = leb-true 1 c (and_left (leb 1 c) _ b);
          within = leb-true c C (and_right (leb 1 c) _ b);
          is = ap (λ (t : Bool). pick t (cell_of C (r - 1) (c - 1)) (R * C)) e;
        }
    go false e h = absurd (omega arith)

ninth_apart : (k l : ℕ) → k < l → ninth k ≡ ninth l → ⊥
unfolding ninth
ninth_apart k l h = go (leb 4 k) (leb 4 l) refl refl
  where
    go : (a b : Bool) → leb 4 k ≡ a → leb 4 l ≡ b → pick a (k + 1) k ≡ pick b (l + 1) l → ⊥
    go true true ea eb e = omega arith
    go true false ea eb e = let x = leb-true 4 k ea in let y = leb-false 4 l eb in omega arith
    go false true ea eb e = let x = leb-false 4 k ea in let y = leb-true 4 l eb in omega arith
    go false false ea eb e = omega arith

pub neighbours_apart : (R C i k l : ℕ) → k < l → neighbour R C i k < R * C → neighbour R C i l < R * C → neighbour R C i k ≡ neighbour R C i l → ⊥
unfolding neighbour
neighbours_apart R C i k l h a b e =
    let x = before R C (i / C + ninth k / 3) (i % C + ninth k % 3) a in
    let y = before R C (i / C + ninth l / 3) (i % C + ninth l % 3) b in
    let q : cell_of C (i / C + ninth k / 3 - 1) (i % C + ninth k % 3 - 1) ≡ cell_of C (i / C + ninth l / 3 - 1) (i % C + ninth l % 3 - 1) =
    sym x.is ∙ e ∙ y.is in
    let hx : i % C + ninth k % 3 - 1 < C = let c = x.column in let w = x.within in omega arith in
    let hy : i % C + ninth l % 3 - 1 < C = let c = y.column in let w = y.within in omega arith in
    let d : i / C + ninth k / 3 - 1 ≡ i / C + ninth l / 3 - 1 = sym (digits_div (i / C + ninth k / 3 - 1) hx) ∙ ap (λ (z : ℕ). z / C) q ∙ digits_div (i / C + ninth l / 3 - 1) hy in
    let m : i % C + ninth k % 3 - 1 ≡ i % C + ninth l % 3 - 1 = sym (digits_mod (i / C + ninth k / 3 - 1) hx) ∙ ap (λ (z : ℕ). z % C) q ∙ digits_mod (i / C + ninth l / 3 - 1) hy in
    ninth_apart k l h
    (let rx = x.row in let ry = y.row in let cx = x.column in let cy = y.column in omega arith)

-- ---- stacks of neighbours --------------------------------------------------------------------------------------------------------------

-- those of the pushed neighbours that pass another test, counted
pub among_pushed : (R C : ℕ) (p q : ℕ → Bool) (i n : ℕ) (st : List ℕ)
    → among q (pushed R C p i n st) ≡ count (λ k. p (neighbour R C i k) && q (neighbour R C i k)) n + among q st
unfolding pushed count among
among_pushed R C p q i zero st = omega arith
among_pushed R C p q i (suc n) st = go (p (neighbour R C i n)) (among_pushed R C p q i n st)
  where
    go : (t : Bool) → among q (pushed R C p i n st) ≡ count (λ k. p (neighbour R C i k) && q (neighbour R C i k)) n + among q st
        → among q (push_if t (neighbour R C i n) (pushed R C p i n st)) ≡ count (λ k. p (neighbour R C i k) && q (neighbour R C i k)) n + bit (t && q (neighbour R C i n)) + among q st
    go true e = omega arith
    go false e = omega arith
