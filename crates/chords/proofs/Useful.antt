-- One equation for each way through the test of a chord.
use mathlib.Core.Path.{◌≡◌, sym, ◌∙◌}
use mathlib.Core.Bool.{false}
use mathlib.Core.List.{List}
use Prim.Native.Nat.{ℕ, ◌<◌, ◌≤◌}
use borrow.Author.Tests.{lt-ltb, le-ltb, eq-eqb, ne_eqb}
use lib.Dec.{ltb}
use lib.ListN.{get_or}
use Rattle.rules.specs.Grid.{around}
use Rattle.rules.specs.Opening.{closed_at}
use Rattle.rules.specs.Clicks.{flag_at, chord_is_useful}

module _ (R C : ℕ) (shown : List ℕ) (i : ℕ) where
  pub useful_eight : 8 ≤ get_or shown i 0 → false ≡ chord_is_useful R C shown i
  unfolding chord_is_useful
  useful_eight h = simp (le-ltb _ _ h)

  module _ (f : ℕ) (flags : f ≡ around R C (flag_at shown) i) (small : get_or shown i 0 < 8) where
    pub useful_flags : (f ≡ get_or shown i 0 → ⊥) → false ≡ chord_is_useful R C shown i
    unfolding chord_is_useful
    useful_flags n = simp (lt-ltb _ _ small, ne_eqb _ _ (λ e. n (flags ∙ e)))

    pub useful_closed : f ≡ get_or shown i 0 → (n : ℕ) → n ≡ around R C (closed_at shown) i → ltb 0 n ≡ chord_is_useful R C shown i
    unfolding chord_is_useful
    useful_closed e n c = simp (lt-ltb _ _ small, eq-eqb _ _ (sym flags ∙ e), c)
