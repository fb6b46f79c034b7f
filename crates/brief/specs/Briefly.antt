-- What a brief event leaves, and that any other leaves all as it was.
use Rattle.std.specs.Prelude.{◌≡◌, List, ℕ, ℤ, Option, Some, None}
use Rattle.rules.specs.declared.Position.{Position}
use Rattle.rules.specs.declared.Played.{Played}
use Rattle.rules.specs.declared.Pointer.{Pointer}
use Rattle.rules.specs.Clicks.{Desk, Play, desk, done}
use Rattle.rules.specs.Step.{counts, step_at}

-- an action at a desk
abbrev pub Plainly : (Desk → Play) → Position → List ℕ → List ℕ → Option Played → List ℕ → List ℕ → Type 0
Plainly f p shown bits (Some o) shown' bits' = done o.answer (desk o.position shown' bits') ≡ f (desk p shown bits)
Plainly f p shown bits None shown' bits' = (shown' ≡ shown) × (bits' ≡ bits)

-- an event at a pointer: once it is counted, it is the step
abbrev pub Briefly : List ℤ → ℕ → Pointer → Position → List ℕ → List ℕ → Option Played → List ℕ → List ℕ → Type 0
Briefly B code x p shown bits (Some o) shown' bits' = counts (desk p shown bits) (done o.answer (desk o.position shown' bits')) ≡ step_at B code x (desk p shown bits)
Briefly B code x p shown bits None shown' bits' = (shown' ≡ shown) × (bits' ≡ bits)
