-- Resolving as a public call: how each way through the code is the definition's answer.
use Rattle.std.specs.Prelude.{Option, Some, None}
use mathlib.Core.Path.{◌≡◌}
use mathlib.Core.Bool.{Bool}
use mathlib.Core.List.{List}
use Prim.Native.Nat.{ℕ, ◌<◌, ◌≤◌}
use borrow.Author.Tests.{eq-eqb, ne_eqb, le-ltb, lt-ltb}
use lib.IntN.{ℤ}
use Rattle.rules.specs.declared.Position.{Position}
use Rattle.rules.specs.declared.Answer.{Answer}
use Rattle.rules.specs.declared.Pointer.{Pointer}
use Rattle.rules.specs.States.{mouse_number, with_middle}
use Rattle.rules.specs.Clicks.{desk}
use Rattle.rules.specs.Mouse.{resolved, flipped}
use Rattle.rules.specs.Step.{pointer_of}
use Rattle.rules.specs.Calls.{answers, refuses, position_check, resolve_by, resolve_of}

module _ (B : List ℤ) (code r c : ℕ) (p : Position) (shown bits : List ℕ) (n : ℕ) (e : n ≡ position_check B (desk p shown bits)) where
  -- refused by 20 to 264
  pub resolve_unfit : (a : Answer) → (n ≡ 0 → ⊥) → a ≡ refuses B p n → a ≡ resolve_of B code r c (desk p shown bits)
  unfolding resolve_of
  resolve_unfit a z h = rw (← e, ne_eqb n 0 z, h)

  module _ (z : n ≡ 0) (w : Option Pointer) (d : w ≡ pointer_of p.settings r c) where
    -- by 30
    pub resolve_bad : (a : Answer) → w ≡ None → a ≡ answers 30 p 0 → a ≡ resolve_of B code r c (desk p shown bits)
    unfolding resolve_of resolve_by
    resolve_bad a k h = rw (← e, eq-eqb n 0 z, ← d, k, h)

    -- by 31
    pub resolve_full : (x : Pointer) (a : Answer) → w ≡ Some x → 65535 ≤ p.events → a ≡ answers 31 p 0 → a ≡ resolve_of B code r c (desk p shown bits)
    unfolding resolve_of resolve_by
    resolve_full x a k l h = rw (← e, eq-eqb n 0 z, ← d, k, le-ltb p.events 65535 l, h)

    -- resolved
    pub resolve_done : (x : Pointer) (a : Answer) (v : ℕ) (b : Bool) (q : Position) → w ≡ Some x → p.events < 65535
        → v ≡ resolved p.settings.rules code (mouse_number p.mouse) p.middle → b ≡ flipped code p.middle → q ≡ with_middle p b
        → a ≡ answers 0 q v → a ≡ resolve_of B code r c (desk p shown bits)
    unfolding resolve_of resolve_by
    resolve_done x a v b q k l ev eb eq h = rw (← e, eq-eqb n 0 z, ← d, k, lt-ltb p.events 65535 l, ← ev, ← eb, ← eq, h)
