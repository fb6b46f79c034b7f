-- When a number is ripe: by the code's tests, and in plain numbers.
use mathlib.Core.Path.{◌≡◌, ap₂, ◌∙◌}
use mathlib.Core.Bool.{Bool, true, false}
use mathlib.Core.List.{List}
use Prim.Native.Nat.{ℕ, ◌+◌, ◌<◌, ◌≤◌}
use borrow.Author.Tests.{le-leb, lt-leb, leb-true}
use lib.Dec.{leb}
use lib.ListN.{get_or}
use Rattle.rules.specs.Grid.{around}
use Rattle.rules.specs.Opening.{closed_at}
use Rattle.rules.specs.Clicks.{flag_at}
use Rattle.rules.specs.Passes.{remainder, all_closed_of, ripe_at}
use Rattle.cells.specs.declared.Around.{Around}
use Rattle.cells.specs.Ground.{SeenAround}
use Rattle.cells.proofs.Words.{and_left, and_right}
use Rattle.flagging.proofs.Signed.{all_closed_true, all_closed_yes}

module _ (R C : ℕ) (shown : List ℕ) (i : ℕ) where
  pub ripe_low : get_or shown i 0 < 1 → false ≡ ripe_at R C shown i
  unfolding ripe_at
  ripe_low h = rw (lt-leb _ _ h)

  pub ripe_high : 1 ≤ get_or shown i 0 → 8 < get_or shown i 0 → false ≡ ripe_at R C shown i
  unfolding ripe_at
  ripe_high h k = rw (le-leb _ _ h, lt-leb _ _ k)

  pub ripe_is : (seen : Around) (r : Bool) → 1 ≤ get_or shown i 0 → get_or shown i 0 ≤ 8 → SeenAround shown R C i seen
      → r ≡ all_closed_of (remainder (get_or shown i 0) seen.flags) seen.closed → r ≡ ripe_at R C shown i
  unfolding ripe_at
  ripe_is seen r h k s a =
      rw (le-leb _ _ h, le-leb _ _ k) (a ∙ ap₂ (λ (x y : ℕ). all_closed_of (remainder (get_or shown i 0) x) y) s.flag s.close)

module _ (R C : ℕ) where
  -- a ripe cell, in plain numbers
  pub record Ripe (s : List ℕ) (c : ℕ) : Type 0 where
    pub low : 1 ≤ get_or s c 0
    pub high : get_or s c 0 ≤ 8
    pub some : around R C (flag_at s) c < get_or s c 0
    pub sum : get_or s c 0 ≡ around R C (flag_at s) c + around R C (closed_at s) c

  pub ripe_parts : (s : List ℕ) (c : ℕ) → ripe_at R C s c ≡ true → Ripe s c
  unfolding ripe_at
  ripe_parts s c e =
      let a = and_right (leb 1 (get_or s c 0)) _ e in
      let b = all_closed_true (get_or s c 0) (around R C (flag_at s) c) (around R C (closed_at s) c) (and_right (leb (get_or s c 0) 8) _ a) in
      record { low = leb-true _ _ (and_left (leb 1 (get_or s c 0)) _ e); high = leb-true _ _ (and_left (leb (get_or s c 0) 8) _ a); some = b.0; sum = b.1 }

  pub ripe_made : (s : List ℕ) (c : ℕ) → Ripe s c → ripe_at R C s c ≡ true
  unfolding ripe_at
  ripe_made s c r =
      rw (le-leb _ _ r.low, le-leb _ _ r.high) (all_closed_yes (get_or s c 0) (around R C (flag_at s) c) (around R C (closed_at s) c) r.some r.sum)
