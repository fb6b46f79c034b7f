-- No number but in its place: 264 for a byte that means nothing stands where 264 stands, after 20 to 263.
use mathlib.Core.Path.{◌≡◌, refl, ap, ◌∙◌}
use mathlib.Core.Bool.{Bool, true, false, ◌&&◌}
use mathlib.Core.List.{List, [], ◌∷◌, ◌++◌}
use Prim.Native.Nat.{ℕ}
use lib.Dec.{eqb}
use lib.IntN.{ℤ}
use Rattle.rules.specs.Words.{pick, unless}
use Rattle.rules.specs.Clicks.{Desk, desk}
use Rattle.rules.specs.Lawful.{shown_lawful, bits_lawful, counts_lawful, states_lawful}
use Rattle.rules.specs.Calls.{boards_fit, position_refusal, position_check}
use Rattle.refusals.specs.Rows.{Row, row, first, settings_rows}
use Rattle.refusals.proofs.Places.{position_rows_lem}
use Rattle.flats.specs.declared.FlatPosition.{FlatPosition}
use Rattle.flats.specs.Flat.{means, unclear, settings_in, position_in}
use Rattle.console.specs.Promises.{position_flat}

-- no row has the number 0
abbrev Refusing : List Row → Type 0
Refusing [] = Unit {0}
Refusing (t ∷ ts) = (eqb t.number 0 ≡ false) × Refusing ts

-- 264 for silence is a last row that fails
last_fails : (ts : List Row) (t : Bool) → Refusing ts → unclear (first (ts ++ (row 264 t ∷ []))) ≡ first (ts ++ (row 264 false ∷ []))
unfolding first
last_fails [] true h = refl
last_fails [] false h = refl
last_fails (u ∷ ts) t (z, h) = go u.test (last_fails ts t h)
  where
    go : (b : Bool) → unclear (first (ts ++ (row 264 t ∷ []))) ≡ first (ts ++ (row 264 false ∷ []))
        → unclear (unless u.number b (first (ts ++ (row 264 t ∷ [])))) ≡ unless u.number b (first (ts ++ (row 264 false ∷ [])))
    go true rec = rec
    go false rec = ap (λ (b : Bool). pick b 264 u.number) z

-- the refusals 20 to 264 of every call on a flat position, where `fit` says that its buffers have the right lengths: 264 is given exactly when
-- no earlier row applies and a byte means nothing or the states ask for more
module _ (fit : Bool) (B : List ℤ) (f : FlatPosition) (shown bits : List ℕ) where
  abbrev d : Desk
  d = desk (position_in f) shown bits

  abbrev before : List Row
  before = settings_rows (settings_in f) fit B ++ (row 261 (shown_lawful B d) ∷ row 262 (bits_lawful B d) ∷ row 263 (counts_lawful B d) ∷ [])

  abbrev pub flat_rows_of : List Row
  flat_rows_of = before ++ (row 264 (means f && states_lawful B d) ∷ [])

  pub flat_rows : pick (means f) (position_refusal fit B d) (unclear (position_refusal fit B d)) ≡ first flat_rows_of
  flat_rows = go (means f)
    where
      go : (b : Bool) → pick b (position_refusal fit B d) (unclear (position_refusal fit B d)) ≡ first (before ++ (row 264 (b && states_lawful B d) ∷ []))
      go true = position_rows_lem fit B d
      go false =
          ap unclear (position_rows_lem fit B d)
          ∙ last_fails before (states_lawful B d) (refl, (refl, (refl, (refl, (refl, (refl, (refl, (refl, (refl, tt)))))))))

-- the position check by itself; a step, a row of events and the counts have the same rows, each with its own buffers' lengths
pub check_position_rows : (B : List ℤ) (f : FlatPosition) (shown bits : List ℕ) → position_flat B f shown bits ≡ first (flat_rows_of (boards_fit (settings_in f) B shown bits) B f shown bits)
unfolding position_flat position_check
check_position_rows B f shown bits = flat_rows (boards_fit (settings_in f) B shown bits) B f shown bits
