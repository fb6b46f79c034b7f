-- The closed neighbours in a list, one place after another.
use mathlib.Core.Path.{◌≡◌, refl, ap, sym, ◌∙◌}
use mathlib.Core.Bool.{Bool, true, false}
use mathlib.Core.List.{List, [], ◌∷◌, ◌++◌}
use Prim.Native.Nat.{ℕ, ◌+◌, ◌/◌, ◌%◌, ◌≤◌}
use native.Mathlib.Omega.{arith}
use native.Mathlib.Numerals.{add-one}
use native.Mathlib.Nat.{mod-lt}
use lib.ListN.{length, length-append}
use Rattle.rules.specs.Words.{stack_of}
use Rattle.rules.specs.Grid.{ninth, cell_before, neighbour, pushed}
use Rattle.rules.specs.Opening.{closed_at}
use Rattle.rules.specs.Clicks.{closed_around}
use Rattle.cells.specs.Ground.{Below}
use Rattle.cells.specs.Stack.{stacked}
use Rattle.cells.proofs.Stack.{stacked_push, stacked_below}
use Rattle.cells.proofs.Grid.{neighbour_at, cell_back, pushed_below}
use Rattle.opening.proofs.Cases.{closed_in}
use Rattle.chords.specs.Collected.{Collected}

pub collected_none : (R C : ℕ) (shown : List ℕ) (cell : ℕ) → Collected (pushed R C (closed_at shown) cell 0 []) 0 []
unfolding stack_of pushed
collected_none R C shown cell = record { stack = refl; most = omega arith }

-- one place more
module _ (R C : ℕ) (shown : List ℕ) (cell k q : ℕ) (cells : List ℕ) (w : 1 ≤ C) (l : Collected (pushed R C (closed_at shown) cell k []) k cells)
    (e : q ≡ cell_before R C (cell / C + ninth k / 3) (cell % C + ninth k % 3)) where
  place : q ≡ neighbour R C cell k
  place = e ∙ neighbour_at R C (cell / C) (cell % C) k (mod-lt cell (omega arith)) ∙ ap (λ (i : ℕ). neighbour R C i k) (cell_back C cell)

  pub collected_more : {b : Bool} → b ≡ closed_at shown q → b ≡ true → (cells' : List ℕ) → cells' ≡ cells ++ q ∷ [] → Collected (pushed R C (closed_at shown) cell (k + 1) []) (k + 1) cells'
  unfolding pushed
  collected_more t y cells' d =
      let s : closed_at shown (neighbour R C cell k) ≡ true = ap (closed_at shown) (sym place) ∙ sym t ∙ y in
      rw (d, add-one, s) (record {
        stack = stacked_push cells q ∙ ap (λ (x : ℕ). x ∷ stacked cells) place ∙ ap (λ (s : List ℕ). neighbour R C cell k ∷ s) l.stack;
        most = let n = length-append cells (q ∷ []) in omega (arith, l.most);
      })

  pub collected_same : {b : Bool} → b ≡ closed_at shown q → b ≡ false → Collected (pushed R C (closed_at shown) cell (k + 1) []) (k + 1) cells
  unfolding pushed
  collected_same t n =
      let s : closed_at shown (neighbour R C cell k) ≡ false = ap (closed_at shown) (sym place) ∙ sym t ∙ n in
      rw (add-one, s) (record { stack = l.stack; most = omega (arith, l.most) })

-- the collected cells are on the board
pub collected_below : (R C : ℕ) (shown : List ℕ) (cell k m : ℕ) (cells : List ℕ) → length shown ≡ m → Collected (closed_around R C shown cell) k cells → Below m cells
collected_below R C shown cell k m cells e l = stacked_below m cells (rw l.stack (pushed_below R C m (closed_at shown) cell 8 [] (λ q h. rw (← e) (closed_in shown q h)) tt))
