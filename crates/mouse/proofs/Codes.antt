-- A plain code is resolved into itself and flips nothing, so what it is played as does not depend on the mouse. Assumes nothing.
use mathlib.Core.Path.{◌≡◌, refl, sym, ap, ◌∙◌}
use mathlib.Core.Bool.{Bool, true, false, ◌&&◌, false≢true}
use Prim.Native.Nat.{ℕ, ◌≤◌}
use native.Mathlib.Omega.{arith}
use borrow.Author.Tests.{ne_eqb, le-leb}
use lib.Dec.{leb}
use Rattle.rules.specs.declared.Pointer.{Pointer}
use Rattle.rules.specs.Clicks.{Desk}
use Rattle.rules.specs.Mouse.{resolved, flipped}
use Rattle.rules.specs.Step.{mouse, event_of, plain_of, plain_code}

-- `l`, `r` and `m`
abbrev pub toggle : ℕ → Bool
toggle code = leb 9 code && leb code 11

-- a code is a plain one, or it is played as 12
pub plain_same : (code : ℕ) → toggle code ≡ false → plain_code code ≡ code
unfolding plain_code
plain_same code e = simp e

pub plain_unknown : (code : ℕ) → toggle code ≡ true → plain_code code ≡ 12
unfolding plain_code
plain_unknown code e = simp e

is_none : (code k : ℕ) → toggle code ≡ false → 9 ≤ k → k ≤ 11 → code ≡ k → ⊥
is_none code k e l m q = let t : toggle code ≡ true = simp (le-leb 9 code (omega arith), le-leb code 11 (omega arith)) in false≢true (sym e ∙ t)

-- every code that is no toggle is resolved into itself, whatever the rules, the mouse and the middle flag
pub resolved_same : (rules code m : ℕ) (middle : Bool) → toggle code ≡ false → resolved rules code m middle ≡ code
unfolding resolved
resolved_same rules code m middle e =
    simp (ne_eqb code 9 (is_none code 9 e (omega arith) (omega arith)), ne_eqb code 10 (is_none code 10 e (omega arith) (omega arith)), ne_eqb code 11 (is_none code 11 e (omega arith) (omega arith)))

pub flipped_same : (code : ℕ) (middle : Bool) → toggle code ≡ false → flipped code middle ≡ middle
unfolding flipped
flipped_same code middle e = simp (ne_eqb code 11 (is_none code 11 e (omega arith) (omega arith)))

pub plain_is_none : (code : ℕ) → toggle (plain_code code) ≡ false
plain_is_none code = go (toggle code) refl
  where
    go : (t : Bool) → toggle code ≡ t → toggle (plain_code code) ≡ false
    go true e = ap toggle (plain_unknown code e)
    go false e = ap toggle (plain_same code e) ∙ e

module _ (code : ℕ) (d : Desk) where
  pub plain_event : (x : Pointer) → plain_of (plain_code code) x d ≡ event_of (plain_code code) x
  unfolding plain_of
  plain_event x = ap (λ (k : ℕ). event_of k x) (resolved_same d.position.settings.rules (plain_code code) (mouse d) d.position.middle (plain_is_none code))

  pub plain_flips : flipped (plain_code code) d.position.middle ≡ d.position.middle
  plain_flips = flipped_same (plain_code code) d.position.middle (plain_is_none code)
