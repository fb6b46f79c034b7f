-- Moves that follow each other: each is accepted in every game state and changes the count of events alone, so that they are counted together.
use Rattle.std.specs.Prelude.{Option, Some, None, is_some}
use mathlib.Core.Path.{◌≡◌, refl, ap, ap₂, sym, ◌∙◌, subst}
use mathlib.Core.Bool.{true, false, false≢true}
use mathlib.Core.List.{List}
use Prim.Native.Nat.{ℕ, zero, suc, ◌+◌, ◌≤◌, ◌<◌}
use native.Mathlib.Omega.{arith}
use native.Mathlib.Decide.{dec_lt}
use borrow.Author.Tests.{eq-eqb, ne_eqb, eqb-true}
use lib.Dec.{eqb}
use lib.IntN.{ℤ}
use Rattle.rules.specs.declared.Settings.{Settings}
use Rattle.rules.specs.declared.Position.{Position}
use Rattle.rules.specs.declared.Played.{Played}
use Rattle.rules.specs.declared.Pointer.{Pointer}
use Rattle.rules.specs.States.{with_events}
use Rattle.rules.specs.Clicks.{Desk, desk, done}
use Rattle.rules.specs.Step.{pointer_of, step_on}
use Rattle.cells.specs.Promises.{Plays}
use Rattle.cells.proofs.Words.{and_left, and_right}
use Rattle.brief.proofs.Heard.{move_steps}
use Rattle.game.proofs.Steps.{step_decoded}
use Rattle.flows.specs.Runs.{is_at}
use Rattle.records.specs.declared.Record.{Record}
use Rattle.records.specs.Entries.{entry_at}
use Rattle.rules.specs.Slides.{play_record}
use Rattle.rows.specs.Rows.{move_of, Moves}
use Rattle.rows.proofs.Records.{entry_played, Row, row_next}

-- ---- which they are --------------------------------------------------------------------------------------------------------------------

module _ (s : Settings) (es : List ℕ) (e : ℕ) {x : Option Record} (n : x ≡ entry_at es e) where
  pub no_move : x ≡ None → false ≡ move_of s (entry_at es e)
  no_move q = ap (move_of s) (sym q ∙ n)

  module _ (r : Record) (q : x ≡ Some r) where
    here : move_of s (Some r) ≡ move_of s (entry_at es e)
    here = ap (move_of s) (sym q ∙ n)

    pub other_code : (r.code ≡ 4 → ⊥) → false ≡ move_of s (entry_at es e)
    other_code h = sym (rw (ne_eqb r.code 4 h) refl) ∙ here

    pub move_is : r.code ≡ 4 → (w : Option Pointer) → w ≡ pointer_of s r.row r.column → is_some w ≡ move_of s (entry_at es e)
    move_is h w ew = at w ∙ (sym (rw (eq-eqb r.code 4 h, ← ew) refl) ∙ here)
      where
        at : (v : Option Pointer) → is_some v ≡ is_at v
        at (Some x) = refl
        at None = refl

pub moves_none : (s : Settings) (es : List ℕ) (from : ℕ) → Moves s es from 0
moves_none s es from = record { each = λ j l. absurd (omega arith) }

pub moves_more : (s : Settings) (es : List ℕ) (from n : ℕ) → Moves s es from n → move_of s (entry_at es (from + n)) ≡ true → Moves s es from (n + 1)
moves_more s es from n m t = record { each = each }
  where
    here : (j : ℕ) → Dec (j < n) → j < n + 1 → move_of s (entry_at es (from + j)) ≡ true
    here j (yes l) _ = m.each j l
    here j (no l) q = let d : from + j ≡ from + n = omega arith in ap (λ (i : ℕ). move_of s (entry_at es i)) d ∙ t

    each : (j : ℕ) → j < n + 1 → move_of s (entry_at es (from + j)) ≡ true
    each j q = here j (dec_lt j n) q

-- ---- what they do ----------------------------------------------------------------------------------------------------------------------

-- a decoded pointer, or none
pointer_of_lem : (w : Option Pointer) → is_at w ≡ true → (x : Pointer) × (w ≡ Some x)
pointer_of_lem (Some x) e = (x, refl)
pointer_of_lem None e = absurd (false≢true e)

-- the play of n moves
abbrev counted : Position → ℕ → Played
counted p n = record { answer = 0; position = with_events p (p.events + n) }

module _ (B : List ℤ) (es : List ℕ) (e : ℕ) (p : Position) (shown bits work : List ℕ) (l : p.events < 65535) where
  step_moves : (code r c : ℕ) → move_of p.settings (Some (record { code = code; row = r; column = c })) ≡ true → done 0 (desk (with_events p (p.events + 1)) shown bits) ≡ step_on B code r c (desk p shown bits)
  step_moves code r c t =
      let x = pointer_of_lem (pointer_of p.settings r c) (and_right (eqb code 4) (is_at (pointer_of p.settings r c)) t) in
      move_steps B code x.0 p shown bits l (eqb-true code 4 (and_left (eqb code 4) (is_at (pointer_of p.settings r c)) t))
      ∙ sym (step_decoded B code r c p shown bits (pointer_of p.settings r c) refl x.0 x.1)

  move_plays : (x : Option Record) → x ≡ entry_at es e → move_of p.settings x ≡ true → Plays (play_record B es e) p shown bits work (counted p 1) shown bits work
  move_plays (Some r) n t = entry_played B es e p shown bits work n r refl (record { outcome = step_moves r.code r.row r.column t; same = refl })
  move_plays None n t = absurd (false≢true t)

one_on : (e j : ℕ) → e + 1 + j ≡ e + suc j
one_on e j = omega arith

module _ (B : List ℤ) (es : List ℕ) (from : ℕ) (d : Desk) (work₀ shown bits work : List ℕ) where
  row_move : (e : ℕ) (o : Played) → o.answer < 20 → move_of o.position.settings (entry_at es e) ≡ true → o.position.events < 65535
      → Row B es from d work₀ e o shown bits work → Row B es from d work₀ (e + 1) (counted o.position 1) shown bits work
  row_move e o ok t l w =
      row_next B es from d work₀ e o shown bits work w ok (counted o.position 1) shown bits work (move_plays B es e o.position shown bits work l (entry_at es e) refl t)

  row_moves : (n e : ℕ) (o : Played) → o.answer < 20 → Moves o.position.settings es e (suc n) → o.position.events + suc n ≤ 65535
      → Row B es from d work₀ e o shown bits work → Row B es from d work₀ (e + suc n) (counted o.position (suc n)) shown bits work
  row_moves zero e o ok v l w =
      row_move e o ok (ap (λ (i : ℕ). move_of o.position.settings (entry_at es i)) (let z : e ≡ e + 0 = omega arith in z) ∙ v.each 0 (omega arith)) (omega arith) w
  row_moves (suc n) e o ok v l w =
      let one = row_move e o ok (ap (λ (i : ℕ). move_of o.position.settings (entry_at es i)) (let z : e ≡ e + 0 = omega arith in z) ∙ v.each 0 (omega arith)) (omega arith) w in
      let rest = row_moves n (e + 1) (counted o.position 1) (omega arith)
      (record { each = λ j h. ap (λ (i : ℕ). move_of o.position.settings (entry_at es i)) (one_on e j) ∙ v.each (suc j) (omega arith) }) (omega arith) one in
      subst (λ (x : ℕ × ℕ). Row B es from d work₀ x.0 (record { answer = 0; position = with_events o.position x.1 }) shown bits work)
      (ap₂ (λ (a b : ℕ). (a, b)) (one_on e (suc n)) (omega arith)) rest

  -- some moves, as the code counts them
  pub row_run : (n e : ℕ) (o o' : Played) → o.answer < 20 → (n ≡ 0 → ⊥) → Moves o.position.settings es e n → o.position.events + n ≤ 65535 → o' ≡ counted o.position n
      → Row B es from d work₀ e o shown bits work → Row B es from d work₀ (e + n) o' shown bits work
  row_run zero e o o' ok h v l q w = absurd (h refl)
  row_run (suc n) e o o' ok h v l q w = rw q (row_moves n e o ok v l w)

-- their answer is 0
pub counted_small : (p : Position) (n : ℕ) (o : Played) → o ≡ counted p n → o.answer < 20
counted_small p n o e = let z = ap (λ (x : Played). x.answer) e in omega arith
