-- A flag takes one from the remainder and one from the closed neighbours of every number beside it: the eight places around a cell are eight cells, so a flag stands at one of them.
use mathlib.Core.Path.{◌≡◌, refl, ap, sym, ◌∙◌}
use mathlib.Core.Bool.{Bool, true, false, ◌&&◌}
use mathlib.Core.List.{List}
use Prim.Native.Nat.{ℕ, ◌+◌, ◌-◌, ◌*◌, ◌/◌, ◌%◌, ◌<◌, ◌≤◌}
use native.Mathlib.Omega.{arith}
use borrow.Author.Tests.{eqb-true, leb-true, leb-false}
use lib.Arith.{digits_div, digits_mod}
use lib.Dec.{eqb, leb}
use lib.ListN.{length, get_or, set}
use lib.Seq.{get_or-set_same, get_or-set_other}
use Rattle.rules.specs.Words.{pick, bit}
use Rattle.rules.specs.Grid.{cell_of, ninth, cell_before, neighbour, around}
use Rattle.rules.specs.Opening.{closed_at}
use Rattle.rules.specs.Clicks.{flag_at}
use Rattle.cells.proofs.Words.{and_left, and_right, pick_both, count_change}
use Rattle.opening.proofs.Cases.{closed_in}

-- place 4 of nine is left out, and no two others fall together
ninth_one : (j k : ℕ) → ninth j ≡ ninth k → j ≡ k
unfolding ninth
ninth_one j k = go (leb 4 j) (leb 4 k) refl refl
  where
    go : (a b : Bool) → leb 4 j ≡ a → leb 4 k ≡ b → pick a (j + 1) j ≡ pick b (k + 1) k → j ≡ k
    go true true x y e = omega arith
    go true false x y e = let m = leb-true 4 j x in let n = leb-false 4 k y in absurd (omega arith)
    go false true x y e = let m = leb-false 4 j x in let n = leb-true 4 k y in absurd (omega arith)
    go false false x y e = e

-- a place on the board
record Placed (C r c q : ℕ) : Type 0 where
  pub row : 1 ≤ r
  pub column : 1 ≤ c
  pub most : c ≤ C
  pub cell : q ≡ cell_of C (r - 1) (c - 1)

placed : (R C r c : ℕ) → cell_before R C r c < R * C → Placed C r c (cell_before R C r c)
unfolding cell_before
placed R C r c =
    pick_both (λ q. q < R * C → Placed C r c q) (leb 1 r && (leb r R && (leb 1 c && leb c C))) (cell_of C (r - 1) (c - 1)) (R * C)
    (λ e h.
    let a = and_right (leb r R) _ (and_right (leb 1 r) _ e) in
    record { row = leb-true _ _ (and_left (leb 1 r) _ e); column = leb-true _ _ (and_left (leb 1 c) _ a); most = leb-true _ _ (and_right (leb 1 c) _ a); cell = refl })
    (λ e h. absurd (omega arith))

-- two places around a cell are two cells
place_one : (R C i j k : ℕ) → neighbour R C i j < R * C → neighbour R C i j ≡ neighbour R C i k → j ≡ k
unfolding neighbour
place_one R C i j k h e =
    let a = placed R C (i / C + ninth j / 3) (i % C + ninth j % 3) h in
    let b = placed R C (i / C + ninth k / 3) (i % C + ninth k % 3) (rw e at h) in
    let same : cell_of C (i / C + ninth j / 3 - 1) (i % C + ninth j % 3 - 1) ≡ cell_of C (i / C + ninth k / 3 - 1) (i % C + ninth k % 3 - 1) = sym a.cell ∙ e ∙ b.cell in
    let la : i % C + ninth j % 3 - 1 < C = omega (arith, a.column, a.most) in
    let lb : i % C + ninth k % 3 - 1 < C = omega (arith, b.column, b.most) in
    let r : i / C + ninth j / 3 - 1 ≡ i / C + ninth k / 3 - 1 =
    sym (digits_div (i / C + ninth j / 3 - 1) la) ∙ ap (λ (x : ℕ). x / C) same ∙ digits_div (i / C + ninth k / 3 - 1) lb in
    let c : i % C + ninth j % 3 - 1 ≡ i % C + ninth k % 3 - 1 =
    sym (digits_mod (i / C + ninth j / 3 - 1) la) ∙ ap (λ (x : ℕ). x % C) same ∙ digits_mod (i / C + ninth k / 3 - 1) lb in
    let u : ninth j / 3 ≡ ninth k / 3 = omega (arith, a.row, b.row) in
    let v : ninth j % 3 ≡ ninth k % 3 = omega (arith, a.column, b.column) in
    ninth_one j k (omega arith)

module _ (R C : ℕ) (s : List ℕ) (l : length s ≡ R * C) (c k : ℕ) (h : k < 8) (e : closed_at s (neighbour R C c k) ≡ true) where
  abbrev here : ℕ
  here = neighbour R C c k

  abbrev flag_here : List ℕ
  flag_here = set s here 11

  other : (j : ℕ) → (j ≡ k → ⊥) → get_or flag_here (neighbour R C c j) 0 ≡ get_or s (neighbour R C c j) 0
  other j n =
      get_or-set_other s here (neighbour R C c j) 11 0 (λ q. n (sym (place_one R C c k j (let m = closed_in s here e in omega arith) (sym q))))

  one_here : get_or flag_here here 0 ≡ 11
  one_here = get_or-set_same s here 11 0 (closed_in s here e)

  -- LAW: a number minus its flags is one less, and so are its closed neighbours
  pub flag_takes_one : (around R C (flag_at flag_here) c ≡ around R C (flag_at s) c + 1) × (around R C (closed_at s) c ≡ around R C (closed_at flag_here) c + 1)
  unfolding around
  flag_takes_one =
      let f = count_change (λ j. flag_at s (neighbour R C c j)) (λ j. flag_at flag_here (neighbour R C c j)) k (λ j n. ap (λ (x : ℕ). eqb x 11) (other j n)) 8 h in
      let g = count_change (λ j. closed_at s (neighbour R C c j)) (λ j. closed_at flag_here (neighbour R C c j)) k (λ j n. ap (λ (x : ℕ). eqb x 10) (other j n)) 8 h in
      let ten = eqb-true (get_or s here 0) 10 e in
      let f0 : bit (flag_at s here) ≡ 0 = ap (λ (x : ℕ). bit (eqb x 11)) ten in
      let f1 : bit (flag_at flag_here here) ≡ 1 = ap (λ (x : ℕ). bit (eqb x 11)) one_here in
      let g1 : bit (closed_at s here) ≡ 1 = ap bit e in
      let g0 : bit (closed_at flag_here here) ≡ 0 = ap (λ (x : ℕ). bit (eqb x 10)) one_here in
      (omega arith, omega arith)
