-- Moves that follow each other: each is accepted in every game state and changes the count of events alone, so a row of them is counted together.
use Rattle.std.specs.Prelude.{Option, Some, None}
use Rattle.std.specs.Option.{is_some}
use mathlib.Core.Path.{◌≡◌, ◌∙◌, sym, ap, ap₂, refl, subst}
use mathlib.Core.Bool.{true, false, false≢true}
use mathlib.Core.List.{List}
use Prim.Native.Nat.{ℕ, zero, suc, ◌+◌, ◌*◌, ◌%◌, ◌<◌, ◌≤◌}
use native.Mathlib.Omega.{arith}
use native.Mathlib.Decide.{dec_lt}
use borrow.Author.Tests.{eq-eqb, ne_eqb, eqb-true}
use lib.Dec.{eqb}
use lib.ListN.{length, get_or}
use lib.IntN.{ℤ}
use Rattle.rules.specs.declared.Settings.{Settings}
use Rattle.rules.specs.declared.Position.{Position}
use Rattle.rules.specs.declared.Played.{Played}
use Rattle.rules.specs.declared.Pointer.{Pointer}
use Rattle.rules.specs.States.{with_events}
use Rattle.rules.specs.Clicks.{desk, done}
use Rattle.rules.specs.Step.{pointer_of}
use Rattle.cells.proofs.Words.{and_left, and_right}
use Rattle.flows.specs.Runs.{is_at, move_at, Moves}
use Rattle.brief.proofs.Heard.{move_steps}
use Rattle.game.proofs.Steps.{step_decoded}
use Rattle.flows.proofs.Flows.{Flowing, event_at, flow_on_lem}

-- a decoded pointer, or none
pub some_at : (w : Option Pointer) → is_some w ≡ is_at w
some_at (Some x) = refl
some_at None = refl

module _ (s : Settings) (events : List ℕ) where
  -- ---- one move ------------------------------------------------------------------------------------------------------------------------

  pub other_event : (at : ℕ) → (get_or events at 0 ≡ 4 → ⊥) → false ≡ move_at s events at
  other_event at h = rw (ne_eqb _ _ h) refl

  pub move_is : (at : ℕ) (w v : Option Pointer) → get_or events at 0 ≡ 4 → w ≡ pointer_of s (get_or events (at + 1) 0) (get_or events (at + 2) 0) → w ≡ v → is_at v ≡ move_at s events at
  move_is at w v h e d = rw (eq-eqb _ _ h, ← e, d) refl

  -- ---- a row of moves ------------------------------------------------------------------------------------------------------------------

  pub moves_none : (from : ℕ) → from ≤ length events → Moves s events from 0
  moves_none from h = record { room = omega arith; each = λ k l. absurd (omega arith) }

  pub moves_more : (from n at : ℕ) → at ≡ from + 3 * n → at + 3 ≤ length events → Moves s events from n → move_at s events at ≡ true → Moves s events from (n + 1)
  moves_more from n at e h m t = record { room = omega arith; each = each }
    where
      here : (k : ℕ) → Dec (k < n) → k < n + 1 → move_at s events (from + 3 * k) ≡ true
      here k (yes l) _ = m.each k l
      here k (no l) q = let d : from + 3 * k ≡ at = omega arith in ap (move_at s events) d ∙ t

      each : (k : ℕ) → k < n + 1 → move_at s events (from + 3 * k) ≡ true
      each k q = here k (dec_lt k n) q

zero_on : (at : ℕ) → at ≡ at + 3 * 0
zero_on at = omega arith

one_on : (at k : ℕ) → at + 3 + 3 * k ≡ at + 3 * suc k
one_on at k = omega arith

place_on : (at n : ℕ) → at + 3 + 3 * suc n ≡ at + 3 * suc (suc n)
place_on at n = omega arith

-- a decoded pointer, or none
pointer_of_lem : (w : Option Pointer) → is_at w ≡ true → (x : Pointer) × (w ≡ Some x)
pointer_of_lem (Some x) e = (x, refl)
pointer_of_lem None e = absurd (false≢true e)

module _ (B : List ℤ) (events : List ℕ) (at₀ : ℕ) (o₀ : Played) (shown₀ bits₀ work₀ shown bits work : List ℕ) (m : length events % 3 ≡ 0) where
  -- the play of n moves
  abbrev counted : Position → ℕ → Played
  counted p n = record { answer = 0; position = with_events p (p.events + n) }

  flow_move : (at : ℕ) (o : Played) → move_at o.position.settings events at ≡ true → o.position.events < 65535 → at + 3 ≤ length events
      → Flowing B events at₀ o₀ shown₀ bits₀ work₀ at o shown bits work → Flowing B events at₀ o₀ shown₀ bits₀ work₀ (at + 3) (counted o.position 1) shown bits work
  flow_move at o t l h f =
      flow_on_lem B events at o (counted o.position 1) shown bits work shown bits work h
      (record { outcome = played; same = refl })
      at₀ o₀ shown₀ bits₀ work₀ f m (omega arith)
    where
      row : ℕ
      row = get_or events (at + 1) 0

      column : ℕ
      column = get_or events (at + 2) 0

      code : get_or events at 0 ≡ 4
      code = eqb-true _ _ (and_left _ _ t)

      x : (y : Pointer) × (pointer_of o.position.settings row column ≡ Some y)
      x = pointer_of_lem (pointer_of o.position.settings row column) (and_right (eqb (get_or events at 0) 4) _ t)

      played : done 0 (desk (with_events o.position (o.position.events + 1)) shown bits) ≡ event_at B events at (desk o.position shown bits)
      played =
          move_steps B (get_or events at 0) x.0 o.position shown bits l code
          ∙ sym (step_decoded B (get_or events at 0) row column o.position shown bits (pointer_of o.position.settings row column) refl x.0 x.1)

  pub flow_moves : (n at : ℕ) (o : Played) → Moves o.position.settings events at (suc n) → o.position.events + suc n ≤ 65535
      → Flowing B events at₀ o₀ shown₀ bits₀ work₀ at o shown bits work → Flowing B events at₀ o₀ shown₀ bits₀ work₀ (at + 3 * suc n) (counted o.position (suc n)) shown bits work
  flow_moves zero at o v l f = let r = v.room in flow_move at o (ap (move_at o.position.settings events) (zero_on at) ∙ v.each 0 (omega arith)) (omega arith) (omega arith) f
  flow_moves (suc n) at o v l f =
      let r = v.room in
      let one = flow_move at o (ap (move_at o.position.settings events) (zero_on at) ∙ v.each 0 (omega arith)) (omega arith) (omega arith) f in
      let rest = flow_moves n (at + 3) (counted o.position 1) (record { room = omega arith; each = λ k h. ap (move_at o.position.settings events) (one_on at k) ∙ v.each (suc k) (omega arith) }) (omega arith) one in
      subst (λ (x : ℕ × ℕ). Flowing B events at₀ o₀ shown₀ bits₀ work₀ x.0 (record { answer = 0; position = with_events o.position x.1 }) shown bits work)
      (ap₂ (λ (a b : ℕ). (a, b)) (place_on at n) (omega arith)) rest

  -- some moves, as the code counts them
  pub flow_run : (n at : ℕ) (o o' : Played) → (n ≡ 0 → ⊥) → Moves o.position.settings events at n → o.position.events + n ≤ 65535 → o' ≡ counted o.position n
      → Flowing B events at₀ o₀ shown₀ bits₀ work₀ at o shown bits work → Flowing B events at₀ o₀ shown₀ bits₀ work₀ (at + 3 * n) o' shown bits work
  flow_run zero at o o' h v l e f = absurd (h refl)
  flow_run (suc n) at o o' h v l e f = rw e (flow_moves n at o v l f)
