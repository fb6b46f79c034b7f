-- What a kept position gives the code: the counts are small, and what is taken off is there.
use mathlib.Core.Path.{◌≡◌, subst⁻¹}
use mathlib.Core.Bool.{Bool}
use mathlib.Core.List.{List}
use Prim.Native.Nat.{ℕ, ◌+◌, ◌*◌, ◌<◌, ◌≤◌}
use native.Mathlib.Omega.{arith}
use borrow.Author.Tests.{eq-eqb}
use lib.IntN.{ℤ}
use lib.ListN.{length, get_or}
use Rattle.rules.specs.declared.Settings.{Settings}
use Rattle.rules.specs.declared.Counts.{Counts}
use Rattle.rules.specs.declared.Secrets.{Secrets}
use Rattle.rules.specs.declared.Pointer.TheVariants.{Cell}
use Rattle.rules.specs.declared.GameState.TheVariants.{PreFlaging}
use Rattle.rules.specs.Grid.{cell_of}
use Rattle.rules.specs.Opening.{is_open}
use Rattle.rules.specs.Clicks.{Desk}
use Rattle.rules.specs.Lawful.{shows, is_flag, is_open_or_hit}
use Rattle.cells.proofs.Grid.{cell_lt}
use Rattle.keep.specs.Kept.{Ground, Sound, Kept, Inside}
use Rattle.keep.proofs.Counting.{shown_le, shown_some}
use Rattle.keep.proofs.Moves.{phase_in}

pub record Small (n : ℕ) (c : Counts) (k : Secrets) : Type 0 where
  pub left : c.left ≤ n
  pub right : c.right ≤ n
  pub double : c.double ≤ n + 2048
  pub lce : c.lce ≤ n
  pub dce : c.dce ≤ n
  pub flag : c.flag ≤ 2048
  pub rce : k.rce ≤ n
  pub solved : k.solved_left + k.solved_chord ≤ 2048

pub sound_small : {n : ℕ} {B : List ℤ} {loss : Bool} {s : Settings} {c : Counts} {k : Secrets} {l b : List ℕ} → Sound n B loss s c k l b → Small n c k
sound_small {l = l} h =
    let b = h.bounded in
    let g = h.ground in
    let z = h.ground.mined.sized in
    record {
      left = b.left;
      right = b.right;
      lce = b.lce;
      dce = b.dce;
      rce = b.rce;
      double = let a = h.double in let m = shown_le is_open_or_hit l in omega arith;
      flag = let a = h.flag in let m = shown_le is_flag l in omega arith;
      solved = let a = h.solved in let m = shown_le is_open l in omega arith;
    }

-- before the game a shown 11 is a pre-flag
pub preflags_has : {n : ℕ} {B : List ℤ} {d : Desk} → Kept n B d → d.position.game ≡ PreFlaging → (i : ℕ) → i < length d.shown → get_or d.shown i 0 ≡ 11
    → 1 ≤ d.position.preflags
preflags_has {d = d} h g i lt e =
    let a = shown_some (shows 11) d.shown i lt (eq-eqb _ _ e) in
    let w = (phase_in PreFlaging g h).flags in
    omega arith

-- a pointer's cell is a cell of the shown board
pub cell_shown : {B : List ℤ} {s t : Settings} {l b : List ℕ} → Ground B t l b → t ≡ s → (r c : ℕ) → Inside s (Cell r c) → cell_of t.columns r c < length l
cell_shown {s = s} {t = t} {l = l} g e r c i =
    subst⁻¹ (λ (m : ℕ). cell_of t.columns r c < m) g.board
    (subst⁻¹ (λ (t : Settings). cell_of t.columns r c < t.rows * t.columns) e (cell_lt s.rows s.columns r c i.0 i.1))
