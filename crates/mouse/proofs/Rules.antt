-- The league's rules: rules 1 resolve as document 01 has it, and rules 2 differ from them at `r` in UpDownNotFlag alone.
use mathlib.Core.Path.{◌≡◌, refl, ap, sym, ◌∙◌}
use mathlib.Core.Bool.{Bool, true, false, ◌&&◌, ◌||◌}
use Prim.Native.Nat.{ℕ}
use native.Mathlib.Omega.{arith}
use native.Mathlib.Decide.{ℕ_discrete}
use borrow.Author.Tests.{eqb-true, ne_eqb}
use lib.Dec.{leb, eqb}
use Rattle.rules.specs.Words.{pick}
use Rattle.rules.specs.Mouse.{both_down, resolved}
use Rattle.mouse.specs.Before.{resolved_before}

-- resolving, where `held` says whether the right button is held
abbrev by_held : Bool → ℕ → ℕ → Bool → ℕ
by_held held code m middle =
    pick (eqb code 9) (pick (leb 3 m) 1 0) (pick (eqb code 10) (pick held 3 2) (pick (eqb code 11) (pick middle 6 5) code))

-- only `r` asks for it
held_unasked : (a b : Bool) (code m : ℕ) (middle : Bool) → (code ≡ 10 → ⊥) → by_held a code m middle ≡ by_held b code m middle
held_unasked a b code m middle q = simp (ne_eqb code 10 q)

or_none : (a b : Bool) → b ≡ false → (a || b) ≡ a
or_none true b e = refl
or_none false b e = e

not_both : (m rules : ℕ) → (m ≡ 2 → rules ≡ 2 → ⊥) → (eqb m 2 && eqb rules 2) ≡ false
not_both m rules h = go (eqb m 2) (eqb rules 2) refl refl
  where
    go : (a b : Bool) → eqb m 2 ≡ a → eqb rules 2 ≡ b → (a && b) ≡ false
    go true true e f = absurd (h (eqb-true m 2 e) (eqb-true rules 2 f))
    go true false e f = refl
    go false b e f = refl

-- but for `r` in UpDownNotFlag by rules 2 every code resolves as document 01 has it
pub resolves_before : (rules code m : ℕ) (middle : Bool) → (code ≡ 10 → m ≡ 2 → rules ≡ 2 → ⊥) → resolved rules code m middle ≡ resolved_before code m middle
unfolding resolved resolved_before both_down
resolves_before rules code m middle h = go (ℕ_discrete code 10)
  where
    held : Bool
    held = eqb m 1 || ((eqb m 4 || eqb m 5) || (eqb m 2 && eqb rules 2))

    before : Bool
    before = eqb m 1 || (eqb m 4 || eqb m 5)

    go : Dec (code ≡ 10) → by_held held code m middle ≡ by_held before code m middle
    go (yes q) = ap (λ (t : Bool). by_held (eqb m 1 || t) code m middle) (or_none (eqb m 4 || eqb m 5) (eqb m 2 && eqb rules 2) (not_both m rules (h q)))
    go (no q) = held_unasked held before code m middle q

-- resolving under rules 1 is document 01's
pub rules_one : (code m : ℕ) (middle : Bool) → resolved 1 code m middle ≡ resolved_before code m middle
rules_one code m middle = resolves_before 1 code m middle (λ _ _ q. omega arith)

-- for every code and mouse state but `r` in UpDownNotFlag both rules resolve alike ..
pub rules_two_else : (code m : ℕ) (middle : Bool) → (code ≡ 10 → m ≡ 2 → ⊥) → resolved 2 code m middle ≡ resolved 1 code m middle
rules_two_else code m middle h = resolves_before 2 code m middle (λ q p _. h q p) ∙ sym (rules_one code m middle)

-- .. and that one is `rr` under rules 2, `rc` under rules 1
pub rules_two_releases : (middle : Bool) → (resolved 2 10 2 middle ≡ 3) × (resolved 1 10 2 middle ≡ 2)
unfolding resolved both_down
rules_two_releases middle = (refl, refl)
