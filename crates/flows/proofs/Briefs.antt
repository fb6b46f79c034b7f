-- The next event of a row: what `brief` plays of it is the step, and what it leaves alone is as it was.
use Rattle.std.specs.Prelude.{Option, Some, None}
use mathlib.Core.Path.{◌≡◌, ◌∙◌, sym, ap, subst, subst⁻¹}
use mathlib.Core.List.{List}
use Prim.Native.Nat.{ℕ, ◌+◌}
use lib.IntN.{ℤ}
use Rattle.rules.specs.declared.Position.{Position}
use Rattle.rules.specs.declared.Played.{Played}
use Rattle.rules.specs.declared.Pointer.{Pointer}
use Rattle.rules.specs.States.{with_events}
use Rattle.rules.specs.Clicks.{desk, done}
use Rattle.rules.specs.Step.{step_at}
use Rattle.keep.specs.Kept.{LawfulAt}
use Rattle.brief.specs.Briefly.{Briefly}

module _ (B : List ℤ) (code : ℕ) (x : Pointer) (p : Position) (shown bits : List ℕ) (b : Option Played) (shown' bits' : List ℕ) (h : Briefly B code x p shown bits b shown' bits') where
  -- played, and counted
  pub brief_played : (o r : Played) → b ≡ Some o → r ≡ record { answer = o.answer; position = with_events o.position (p.events + 1) }
      → done r.answer (desk r.position shown' bits') ≡ step_at B code x (desk p shown bits)
  brief_played o r e w = rw w (subst (λ (c : Option Played). Briefly B code x p shown bits c shown' bits') e h)

  -- not played, and all as it was
  pub brief_other : b ≡ None → (shown' ≡ shown) × (bits' ≡ bits)
  brief_other e = subst (λ (c : Option Played). Briefly B code x p shown bits c shown' bits') e h

-- a desk that is as it was
module _ {shown bits shown' bits' : List ℕ} (e : shown' ≡ shown) (f : bits' ≡ bits) where
  pub lawful_same : {B : List ℤ} {p : Position} → LawfulAt B (desk p shown bits) → LawfulAt B (desk p shown' bits')
  lawful_same {B} {p} l = subst⁻¹ (λ (s : List ℕ). LawfulAt B (desk p s bits')) e (subst⁻¹ (λ (b : List ℕ). LawfulAt B (desk p shown b)) f l)

  pub desk_same : (p : Position) → desk p shown bits ≡ desk p shown' bits'
  desk_same p = sym (ap (λ (s : List ℕ). desk p s bits') e ∙ ap (λ (b : List ℕ). desk p shown b) f)
