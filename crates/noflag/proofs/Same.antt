-- An event that is not forbidden does what it does in the full game; a forbidden one is refused by 30, 31 or 34. So what the full game's step keeps,
-- the class's keeps. Assumes nothing.
use Rattle.std.specs.Prelude.{Option, Some, None}
use mathlib.Core.Path.{◌≡◌, refl, subst⁻¹}
use mathlib.Core.Bool.{Bool, true, false}
use mathlib.Core.List.{List}
use Prim.Native.Nat.{ℕ}
use lib.Dec.{ltb, eqb}
use lib.IntN.{ℤ}
use Rattle.rules.specs.declared.Pointer.{Pointer}
use Rattle.rules.specs.Words.{pick, unless}
use Rattle.rules.specs.Clicks.{Desk, Play, done}
use Rattle.rules.specs.Step.{pointer_of, refusal_at, play_at, step_at, step_by_of, step_on}
use Rattle.rules.specs.Noflag.{forbidden, class_refusal_at, class_step_at, class_step_by, class_step_on}
use Rattle.noflag.specs.Class.{ClassSame, forbids, ClassForbids}

refusal_same : (code : ℕ) (x : Pointer) (d : Desk) → forbidden code ≡ false → class_refusal_at code x d ≡ refusal_at code x d
unfolding class_refusal_at refusal_at
refusal_same code x d e = rw e

step_by_same : (B : List ℤ) (code : ℕ) (p : Option Pointer) (d : Desk) → forbidden code ≡ false → class_step_by B code p d ≡ step_by_of B code p d
unfolding class_step_by step_by_of class_step_at step_at
step_by_same B code (Some x) d e = rw (refusal_same code x d e)
step_by_same B code None d e = refl

-- THEOREM: class_same
pub class_same : ClassSame
unfolding class_step_on step_on
class_same B code r c d e = step_by_same B code (pointer_of d.position.settings r c) d e

refused_at_lem : (B : List ℤ) (code : ℕ) (x : Pointer) (d : Desk) (few : Bool)
    → pick (eqb (unless 31 few 34) 0) (play_at B code x d) (done (unless 31 few 34) d) ≡ done (unless 31 few 34) d
refused_at_lem B code x d true = refl
refused_at_lem B code x d false = refl

step_by_forbids : (B : List ℤ) (code : ℕ) (p : Option Pointer) (d : Desk) → forbidden code ≡ true
    → class_step_by B code p d ≡ done (forbids (ltb d.position.events 65535) p) d
unfolding class_step_by class_step_at class_refusal_at
step_by_forbids B code (Some x) d e = rw e (refused_at_lem B code x d (ltb d.position.events 65535))
step_by_forbids B code None d e = refl

-- THEOREM: 34 in its place, in every game state
pub class_forbids : ClassForbids
unfolding class_step_on
class_forbids B code r c d e = step_by_forbids B code (pointer_of d.position.settings r c) d e

-- what holds of the desk, and of what the full game's step leaves where the event is not forbidden, holds of what the class's leaves
pub class_either : (P : Desk → Type 0) (B : List ℤ) (code r c : ℕ) (d : Desk) → P d → (forbidden code ≡ false → P (step_on B code r c d).desk)
    → P (class_step_on B code r c d).desk
class_either P B code r c d stay go = by (forbidden code) refl
  where
    by : (b : Bool) → forbidden code ≡ b → P (class_step_on B code r c d).desk
    by true e = subst⁻¹ (λ (o : Play). P o.desk) (class_forbids B code r c d e) stay
    by false e = subst⁻¹ (λ (o : Play). P o.desk) (class_same B code r c d e) (go e)
