-- The bytes of a row of events before its first forbidden one, as the loop finds them. Assumes nothing.
use mathlib.Core.Path.{◌≡◌, refl, ap, ◌∙◌}
use mathlib.Core.Bool.{Bool, true, false}
use mathlib.Core.List.{List}
use Prim.Native.Nat.{ℕ, suc, ◌+◌, ◌%◌, ◌<◌, ◌≤◌}
use native.Mathlib.Omega.{arith}
use lib.ListN.{length, get_or, drop}
use lib.Seq.{drop-length}
use Rattle.rules.specs.Words.{pick}
use Rattle.flows.proofs.Flows.{three, event_left}
use Rattle.rules.specs.Noflag.{forbidden}
use Rattle.noflag_player.specs.Printing.{free_in, Free}

-- the first k bytes have none
pub record Freeing (events : List ℕ) (k : ℕ) : Type 0 where
  pub whole : k % 3 ≡ 0
  pub within : k ≤ length events
  pub counts : free_in events ≡ k + free_in (drop k events)

pub freeing_start : (events : List ℕ) → Freeing events 0
freeing_start events = let e : free_in (drop 0 events) ≡ free_in events = refl in record { whole = refl; within = omega arith; counts = omega arith }

module _ {events : List ℕ} {k : ℕ} (w : length events % 3 ≡ 0) (f : Freeing events k) where
  module _ (h : k < length events) where
    left : k + 3 ≤ length events
    left = event_left (length events) k w f.whole h

    -- the event at k, forbidden or not
    turn : (t : Bool) → forbidden (get_or events k 0) ≡ t → free_in (drop k events) ≡ pick t 0 (suc (suc (suc (free_in (drop (k + 3) events)))))
    unfolding free_in
    turn t e = ap free_in (three events k left) ∙ ap (λ (b : Bool). pick b 0 (suc (suc (suc (free_in (drop (k + 3) events)))))) e

    pub freeing_on : forbidden (get_or events k 0) ≡ false → Freeing events (k + 3)
    freeing_on e =
        let a = f.counts in
        let b = turn false e in
        let m = f.whole in
        record { whole = omega arith; within = left; counts = omega arith }

    pub freeing_found : forbidden (get_or events k 0) ≡ true → Free events k
    freeing_found e =
        let a = f.counts in
        let b = turn true e in
        record { free = omega arith; whole = f.whole; within = f.within }

  pub freeing_end : length events ≤ k → Free events (length events)
  unfolding free_in
  freeing_end h =
      let a = f.counts in
      let i = f.within in
      let e : k ≡ length events = omega arith in
      let b : free_in (drop k events) ≡ 0 = ap (λ (n : ℕ). free_in (drop n events)) e ∙ ap free_in (drop-length events) in
      record { free = omega arith; whole = w; within = omega arith }
