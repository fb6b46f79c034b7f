-- What is harmless and then harmless again is harmless: a safe cell opens to a number, which is none of 10, 11 and 17, so that a cell that left 10
-- stays as it is, new flags are on mines and no question mark comes. A cell that showed what it may still does.
use mathlib.Core.Path.{◌≡◌, ◌∙◌, sym, refl, subst⁻¹}
use mathlib.Core.Bool.{Bool, true, false}
use mathlib.Core.List.{List}
use Prim.Native.Nat.{ℕ, ◌≤◌}
use native.Mathlib.Omega.{arith}
use borrow.Author.Tests.{leb-true}
use lib.IntN.{ℤ}
use lib.ListN.{length}
use Rattle.rules.specs.declared.GameState.{GameState}
use Rattle.rules.specs.declared.GameState.TheVariants.{Playing}
use Rattle.rules.specs.Board.{face_at, mine_at}
use Rattle.rules.specs.Clicks.{Desk}
use Rattle.rules.specs.Lawful.{cell_lawful}
use Rattle.cells.specs.Ground.{Valued}
use Rattle.keep.proofs.Reshow.{flag_lawful}
use Rattle.keep.proofs.Opened.{number_lawful}
use Rattle.keep.proofs.Left.{safe_open}
use Rattle.harmless.specs.Harmless.{FlagsOnMines, Right, Spared, stays, flags, opens, AllSpared, NotLost, Harmless}

-- ---- one cell ----------------------------------------------------------------------------------------------------------------------------

number : (B : List ℤ) → Valued B → (i : ℕ) → mine_at B i ≡ false → face_at B i ≤ 8
number B v i m = leb-true (face_at B i) 8 (safe_open B v i m)

module _ {B : List ℤ} {i : ℕ} (v : Valued B) where
  pub spared_on : {x y z : ℕ} → Spared B i x y → Spared B i y z → Spared B i x z
  spared_on (stays e) (stays d) = stays (d ∙ e)
  spared_on (stays e) (flags d h m) = flags (sym e ∙ d) h m
  spared_on (stays e) (opens d h m) = opens (sym e ∙ d) h m
  spared_on (flags e h m) (stays d) = flags e (d ∙ h) m
  spared_on (flags e h m) (flags d k o) = absurd (omega arith)
  spared_on (flags e h m) (opens d k o) = absurd (omega arith)
  spared_on (opens e h m) (stays d) = opens e (d ∙ h) m
  spared_on (opens e h m) (flags d k o) = let a = number B v i m in absurd (omega arith)
  spared_on (opens e h m) (opens d k o) = let a = number B v i m in absurd (omega arith)

  spared_flag : {x y : ℕ} → (x ≡ 11 → mine_at B i ≡ true) → Spared B i x y → y ≡ 11 → mine_at B i ≡ true
  spared_flag f (stays e) t = f (sym e ∙ t)
  spared_flag f (flags e h m) t = m
  spared_flag f (opens e h m) t = let a = number B v i m in absurd (omega arith)

  pub spared_question : {x y : ℕ} → Spared B i x y → y ≡ 17 → x ≡ 17
  spared_question (stays e) t = sym e ∙ t
  spared_question (flags e h m) t = absurd (omega arith)
  spared_question (opens e h m) t = let a = number B v i m in absurd (omega arith)

  pub spared_lawful : {x y : ℕ} (q : Bool) → Spared B i x y → cell_lawful q false (face_at B i) x ≡ true → cell_lawful q false (face_at B i) y ≡ true
  spared_lawful q (stays e) h = subst⁻¹ (λ (z : ℕ). cell_lawful q false (face_at B i) z ≡ true) e h
  spared_lawful q (flags e d m) h = subst⁻¹ (λ (z : ℕ). cell_lawful q false (face_at B i) z ≡ true) d (flag_lawful q false (face_at B i))
  spared_lawful q (opens e d m) h = subst⁻¹ (λ (z : ℕ). cell_lawful q false (face_at B i) z ≡ true) d (number_lawful q false (face_at B i) (number B v i m))

-- ---- a desk ------------------------------------------------------------------------------------------------------------------------------

-- where every flag is on a mine and every cell is spared, every flag is on a mine
pub harmless_by : {B : List ℤ} {d e : Desk} → Valued B → FlagsOnMines B d.shown → AllSpared B d.shown e.shown → NotLost e.position.game → Harmless B d e
harmless_by v f a g = record { cells = a; flags = λ i. spared_flag v (f i) (a i); game = g }

pub harmless_on : {B : List ℤ} {d e f : Desk} → Valued B → Harmless B d e → Harmless B e f → Harmless B d f
harmless_on v a b = record { cells = λ i. spared_on v (a.cells i) (b.cells i); flags = b.flags; game = b.game }

pub playing_not_lost : (g : GameState) → g ≡ Playing → NotLost g
playing_not_lost g e = subst⁻¹ NotLost e tt

-- a right game left as it is
pub harmless_none : {B : List ℤ} {d : Desk} → Right B d → Harmless B d d
harmless_none {d = d} r = record { cells = λ i. stays refl; flags = r.flags; game = playing_not_lost d.position.game r.playing }

-- what a pass, or a part of it, leaves of desk d: no harm, and settings and lengths as they were
pub record Calm (B : List ℤ) (d e : Desk) : Type 0 where
  pub harmless : Harmless B d e
  pub settings : e.position.settings ≡ d.position.settings
  pub long : length e.shown ≡ length d.shown

pub calm_on : {B : List ℤ} {d e f : Desk} → Valued B → Calm B d e → Calm B e f → Calm B d f
calm_on v a b = record { harmless = harmless_on v a.harmless b.harmless; settings = b.settings ∙ a.settings; long = b.long ∙ a.long }

pub calm_none : {B : List ℤ} {d : Desk} → Right B d → Calm B d d
calm_none r = record { harmless = harmless_none r; settings = refl; long = refl }
