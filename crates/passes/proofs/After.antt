-- Which passes follow a flag and a chord.
use mathlib.Core.Path.{◌≡◌, refl, ap, sym, ◌∙◌}
use mathlib.Core.Logic.{◌⊎◌, inl, inr}
use mathlib.Core.Bool.{true, false, ◌||◌}
use mathlib.Core.List.{List}
use Prim.Native.Nat.{ℕ}
use borrow.Author.Tests.{ne_eqb}
use lib.Dec.{eqb}
use lib.IntN.{ℤ}
use Rattle.rules.specs.declared.Position.{Position}
use Rattle.rules.specs.States.{is_playing}
use Rattle.rules.specs.Clicks.{Desk, desk}
use Rattle.rules.specs.Passes.{flag_pass, chord_pass, both_pass, mode_both, mode_flag, mode_chord, passes_after_flag, passes_after_chord}
use Rattle.chording.specs.declared.Scanned.{Scanned}
use Rattle.chording.specs.Scanning.{Scans}
use Rattle.cells.specs.Promises.{Leaves}

-- a mode by its number
pub is_both : (m : ℕ) → (m ≡ 13) ⊎ (m ≡ 16) → mode_both m ≡ true
is_both m (inl e) = rw e
is_both m (inr e) = rw e

pub is_flag : (m : ℕ) → (m ≡ 12) ⊎ (m ≡ 15) → (mode_both m ≡ false) × (mode_flag m ≡ true)
is_flag m (inl e) = rw e (refl, refl)
is_flag m (inr e) = rw e (refl, refl)

pub is_chord : (m : ℕ) → (m ≡ 11) ⊎ (m ≡ 14) → (mode_both m ≡ false) × (mode_chord m ≡ true)
is_chord m (inl e) = rw e (refl, refl)
is_chord m (inr e) = rw e (refl, refl)

pub neither : (m a b : ℕ) → ((m ≡ a) ⊎ (m ≡ b) → ⊥) → (eqb m a || eqb m b) ≡ false
neither m a b f = simp (ne_eqb m a (λ e. f (inl e)), ne_eqb m b (λ e. f (inr e)))

module _ (B : List ℤ) (d : Desk) where
  pub flag_over : is_playing d.position.game ≡ false → passes_after_flag B d ≡ d
  unfolding passes_after_flag
  flag_over e = rw e

  pub flag_both : is_playing d.position.game ≡ true → mode_both d.position.settings.mode ≡ true → passes_after_flag B d ≡ both_pass B d
  unfolding passes_after_flag
  flag_both e b = simp (e, b)

  pub flag_alone : is_playing d.position.game ≡ true → mode_both d.position.settings.mode ≡ false → mode_flag d.position.settings.mode ≡ true → passes_after_flag B d ≡ flag_pass B d
  unfolding passes_after_flag
  flag_alone e b m = simp (e, b, m)

  pub flag_none : is_playing d.position.game ≡ true → mode_both d.position.settings.mode ≡ false → mode_flag d.position.settings.mode ≡ false → passes_after_flag B d ≡ d
  unfolding passes_after_flag
  flag_none e b m = simp (e, b, m)

  pub chord_over : is_playing d.position.game ≡ false → passes_after_chord B d ≡ d
  unfolding passes_after_chord
  chord_over e = rw e

  pub chord_both : is_playing d.position.game ≡ true → mode_both d.position.settings.mode ≡ true → passes_after_chord B d ≡ both_pass B d
  unfolding passes_after_chord
  chord_both e b = simp (e, b)

  pub chord_alone : is_playing d.position.game ≡ true → mode_both d.position.settings.mode ≡ false → mode_chord d.position.settings.mode ≡ true → passes_after_chord B d ≡ (chord_pass B d).desk
  unfolding passes_after_chord
  chord_alone e b m = simp (e, b, m)

  pub chord_none : is_playing d.position.game ≡ true → mode_both d.position.settings.mode ≡ false → mode_chord d.position.settings.mode ≡ false → passes_after_chord B d ≡ d
  unfolding passes_after_chord
  chord_none e b m = simp (e, b, m)

-- the chord pass follows
pub leaves_scan : (B : List ℤ) (p : Position) (shown bits w : List ℕ) (s : Scanned) (shown' w' : List ℕ) (y : Desk) → Scans (λ b. chord_pass B (desk p shown b)) w s shown' w'
    → y ≡ (chord_pass B (desk p shown bits)).desk → Leaves (desk s.position shown' bits) y w w'
leaves_scan B p shown bits w s shown' w' y c e = record { outcome = ap (λ x. x.desk) (c bits).outcome ∙ sym e; same = (c bits).same }
