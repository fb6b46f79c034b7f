-- A position read from its bytes, part by part.
use mathlib.Core.Path.{◌≡◌}
use mathlib.Core.Bool.{Bool}
use mathlib.Core.List.{List}
use Prim.Native.Nat.{ℕ}
use lib.ListN.{get_or}
use Rattle.rules.specs.declared.Settings.{Settings}
use Rattle.rules.specs.declared.GameState.{GameState}
use Rattle.rules.specs.declared.MouseState.{MouseState}
use Rattle.rules.specs.declared.Counts.{Counts}
use Rattle.rules.specs.declared.Secrets.{Secrets}
use Rattle.rules.specs.declared.Position.{Position}
use Rattle.rules.specs.States.{game_at, mouse_at}
use Rattle.rules.specs.Slides.{four_at, yes, settings_in, counts_in, secrets_in, position_in}

abbrev counts_of : ℕ → ℕ → ℕ → ℕ → ℕ → ℕ → ℕ → Counts
counts_of l r d c e f u = record { left = l; right = r; double = d; lce = c; dce = e; flag = f; unopened = u }

abbrev secrets_of : ℕ → ℕ → ℕ → Secrets
secrets_of r l c = record { rce = r; solved_left = l; solved_chord = c }

abbrev position_of : Settings → GameState → MouseState → Bool → ℕ → ℕ → Counts → Secrets → Position
position_of st g m b p e c k = record { settings = st; game = g; mouse = m; middle = b; preflags = p; events = e; counts = c; secrets = k }

module _ (s : List ℕ) where
  pub counts_read : {l r d c e f u : ℕ} → l ≡ four_at s 16 → r ≡ four_at s 20 → d ≡ four_at s 24 → c ≡ four_at s 28 → e ≡ four_at s 36 → f ≡ four_at s 40 → u ≡ four_at s 52
      → counts_of l r d c e f u ≡ counts_in s
  counts_read hl hr hd hc he hf hu = rw (hl, hr, hd, hc, he, hf, hu)

  pub secrets_read : {r l c : ℕ} → r ≡ four_at s 32 → l ≡ four_at s 44 → c ≡ four_at s 48 → secrets_of r l c ≡ secrets_in s
  secrets_read hr hl hc = rw (hr, hl, hc)

  pub position_read : {st : Settings} {g : GameState} {m : MouseState} {p e : ℕ} {c : Counts} {k : Secrets} → st ≡ settings_in s → g ≡ game_at (get_or s 5 0)
      → m ≡ mouse_at (get_or s 6 0) → p ≡ four_at s 8 → e ≡ four_at s 12 → c ≡ counts_in s → k ≡ secrets_in s → position_of st g m (yes (get_or s 7 0)) p e c k ≡ position_in s
  position_read hst hg hm hp he hc hk = rw (hst, hg, hm, hp, he, hc, hk)
