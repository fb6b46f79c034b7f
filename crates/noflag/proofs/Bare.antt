-- The invariant of a game of the class, by parts, so that a change of game state, middle flag, events, left, lce, double, solved_left or the safe cells
-- still closed leaves it the same; and the mouse table where the right button is up. Assumes nothing.
use mathlib.Core.Path.{◌≡◌, ap}
use mathlib.Core.Bool.{false}
use mathlib.Core.List.{List}
use mathlib.Core.Logic.{◌⊎◌, inl, inr}
use Prim.Native.Nat.{ℕ, ◌*◌, ◌<◌}
use lib.ListN.{length, get_or}
use Rattle.rules.specs.declared.Settings.{Settings}
use Rattle.rules.specs.declared.MouseState.{MouseState}
use Rattle.rules.specs.declared.MouseState.TheVariants.{UpUp, DownUp}
use Rattle.rules.specs.States.{mouse_number, mouse_at}
use Rattle.rules.specs.Grid.{neighbour}
use Rattle.rules.specs.Lent.{bit_at}
use Rattle.rules.specs.Clicks.{Desk, Play}
use Rattle.rules.specs.Mouse.{mouse_table, next_mouse}
use Rattle.noflag.specs.Class.{RightUp}

-- an open 0 has no closed neighbour: without flags an opening stops at numbers only
abbrev pub Flooded : ℕ → ℕ → List ℕ → Type 0
Flooded R C shown = (i : ℕ) → i < length shown → get_or shown i 0 ≡ 0 → (k : ℕ) → k < 8 → get_or shown (neighbour R C i k) 0 ≡ 10 → ⊥

-- f, r, c, e, h and p are flag, right, dce, rce, solved_chord and the pre-flag count
pub record Bare (s : Settings) (f r c e h p : ℕ) (shown bits : List ℕ) : Type 0 where
  -- in mode 0 no pass follows a chord
  pub mode : s.mode ≡ 0
  pub long : length shown ≡ s.rows * s.columns
  pub flooded : Flooded s.rows s.columns shown
  pub no_flag : (i : ℕ) → get_or shown i 0 ≡ 11 → ⊥
  pub no_wrong : (i : ℕ) → get_or shown i 0 ≡ 14 → ⊥
  pub no_question : (i : ℕ) → get_or shown i 0 ≡ 17 → ⊥
  pub no_bit : (n : ℕ) → bit_at bits n ≡ false
  pub flag : f ≡ 0
  pub right : r ≡ 0
  pub dce : c ≡ 0
  pub rce : e ≡ 0
  pub chord : h ≡ 0
  pub pre : p ≡ 0

-- the parts of a desk that it reads
abbrev pub BareAt : Desk → Type 0
BareAt d =
    Bare d.position.settings d.position.counts.flag d.position.counts.right d.position.counts.dce d.position.secrets.rce
    d.position.secrets.solved_chord d.position.preflags d.shown d.bits

abbrev pub Spotless : Desk → Type 0
Spotless d = BareAt d × RightUp d.position.mouse

-- of what is played
abbrev pub SpotlessO : Play → Type 0
SpotlessO o = Spotless o.desk

-- ---- the mouse ---------------------------------------------------------------------------------------------------------------------------

abbrev next : ℕ → MouseState → MouseState
next e m = mouse_at (next_mouse e (mouse_number m))

pub press : (m : MouseState) → RightUp m → next 0 m ≡ DownUp
unfolding next_mouse mouse_table mouse_at
press m (inl e) = ap (next 0) e
press m (inr e) = ap (next 0) e

pub release : (m : MouseState) → RightUp m → next 1 m ≡ UpUp
unfolding next_mouse mouse_table mouse_at
release m (inl e) = ap (next 1) e
release m (inr e) = ap (next 1) e

-- by number: 0 or 3
pub up_number : (m : MouseState) → RightUp m → (mouse_number m ≡ 0) ⊎ (mouse_number m ≡ 3)
up_number m (inl e) = inl (ap mouse_number e)
up_number m (inr e) = inr (ap mouse_number e)
