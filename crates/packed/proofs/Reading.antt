-- A position read from its packed bytes, and its numbers, part by part.
use mathlib.Core.Path.{◌≡◌}
use mathlib.Core.Bool.{Bool}
use mathlib.Core.List.{List, [], ◌∷◌}
use Prim.Native.Nat.{ℕ}
use lib.ListN.{get_or}
use Rattle.rules.specs.declared.Settings.{Settings}
use Rattle.rules.specs.declared.GameState.{GameState}
use Rattle.rules.specs.declared.MouseState.{MouseState}
use Rattle.rules.specs.declared.Counts.{Counts}
use Rattle.rules.specs.declared.Secrets.{Secrets}
use Rattle.rules.specs.declared.Position.{Position}
use Rattle.rules.specs.declared.Answer.{Answer}
use Rattle.rules.specs.Words.{bit}
use Rattle.rules.specs.States.{game_number, game_at, mouse_number, mouse_at}
use Rattle.rules.specs.Board.{row_byte, column_byte}
use Rattle.packed.specs.Packed.{four_at, yes, settings_in, counts_in, secrets_in, position_in}
use Rattle.packed.specs.Line.{answer_numbers}

abbrev counts_of : ℕ → ℕ → ℕ → ℕ → ℕ → ℕ → ℕ → Counts
counts_of l r d c e f u = record { left = l; right = r; double = d; lce = c; dce = e; flag = f; unopened = u }

abbrev secrets_of : ℕ → ℕ → ℕ → Secrets
secrets_of r l c = record { rce = r; solved_left = l; solved_chord = c }

abbrev position_of : Settings → GameState → MouseState → Bool → ℕ → ℕ → Counts → Secrets → Position
position_of st g m b p e c k =
    record { settings = st; game = g; mouse = m; middle = b; preflags = p; events = e; counts = c; secrets = k }

pub counts_read : (s : List ℕ) {l r d c e f u : ℕ} → l ≡ four_at s 15 → r ≡ four_at s 19 → d ≡ four_at s 23 → c ≡ four_at s 27 → e ≡ four_at s 35 → f ≡ four_at s 39
    → u ≡ four_at s 56 → counts_of l r d c e f u ≡ counts_in s
counts_read s hl hr hd hc he hf hu = rw (hl, hr, hd, hc, he, hf, hu)

pub secrets_read : (s : List ℕ) {r l c : ℕ} → r ≡ four_at s 31 → l ≡ four_at s 43 → c ≡ four_at s 47 → secrets_of r l c ≡ secrets_in s
secrets_read s hr hl hc = rw (hr, hl, hc)

pub position_read : (s : List ℕ) {st : Settings} {g : GameState} {m : MouseState} {p e : ℕ} {c : Counts} {k : Secrets} → st ≡ settings_in s → g ≡ game_at (get_or s 4 0)
    → m ≡ mouse_at (get_or s 5 0) → p ≡ four_at s 7 → e ≡ four_at s 11 → c ≡ counts_in s → k ≡ secrets_in s → position_of st g m (yes (get_or s 6 0)) p e c k ≡ position_in s
position_read s hst hg hm hp he hc hk = rw (hst, hg, hm, hp, he, hc, hk)

-- what stands for each number that a function of its own gives
pub numbers_are : (a : Answer) {x x' y y' r c m q g g' o o' b u : ℕ} → let p = a.position in x ≡ x' → x' ≡ row_byte a.place → y ≡ y' → y' ≡ column_byte a.place
    → r ≡ p.settings.rows → c ≡ p.settings.columns → m ≡ p.settings.mode → q ≡ bit p.settings.question
    → g ≡ g' → g' ≡ game_number p.game → o ≡ o' → o' ≡ mouse_number p.mouse → b ≡ bit p.middle → u ≡ p.settings.rules
    → x ∷ y ∷ a.value ∷ r ∷ c ∷ m ∷ q ∷ g ∷ o ∷ b ∷ p.preflags ∷ p.events ∷ p.counts.left ∷ p.counts.right ∷ p.counts.double ∷ p.counts.lce ∷ p.secrets.rce ∷ p.counts.dce ∷ p.counts.flag ∷ p.secrets.solved_left ∷ p.secrets.solved_chord ∷ u ∷ p.counts.unopened ∷ []
    ≡ answer_numbers a
numbers_are a hx hx' hy hy' hr hc hm hq hg hg' ho ho' hb hu = rw (hx, hx', hy, hy', hr, hc, hm, hq, hg, hg', ho, ho', hb, hu)
