-- A refusal gives the flat position back byte for byte, with its number, the place that belongs to it and the value 0, and writes nothing lent.
use mathlib.Core.Path.{◌≡◌, refl, ap, sym, ◌∙◌}
use mathlib.Core.Bool.{Bool, true, false, ◌&&◌}
use mathlib.Core.List.{List, [], ◌∷◌}
use Prim.Native.Nat.{ℕ, ◌≤◌, ◌%◌}
use lib.Dec.{eqb}
use lib.ListN.{length}
use lib.IntN.{ℤ}
use Rattle.rules.specs.declared.Answer.{Answer}
use Rattle.rules.specs.Words.{pick}
use Rattle.rules.specs.States.{fresh_of}
use Rattle.rules.specs.Board.{fault_of}
use Rattle.rules.specs.Clicks.{Desk, desk}
use Rattle.rules.specs.Calls.{Outcome, set_up, answers, refuses, refused_at, fresh_desk, boards_fit, work_fits, lent_refusal, flow_refusal, setup_refusal, setup_by, reset_of, step_of, flow_of, left_to_solve_of}
use Rattle.refusals.specs.Rows.{first}
use Rattle.board.proofs.Pair.{resolve_gives_back}
use Rattle.board.proofs.Outcomes.{setup_refused, flow_refused, step_gives_back, step_game_state_gives_back, bbbv_solved_gives_back, left_to_solve_gives_back}
use Rattle.flats.specs.declared.FlatPosition.{FlatPosition}
use Rattle.flats.specs.declared.FlatAnswer.{FlatAnswer}
use Rattle.flats.specs.Flat.{means, unclear, settings_of, settings_in, position_in, flat_of, gives, flat_answer}
use Rattle.console.specs.Promises.{Leaves, leaves, refuses_flat, flat_outcome, flat_asked, reset_or, flat_set_up, setup_flat, reset_flat, resolve_flat, step_flat, flow_flat, game_state_flat, bbbv_solved_flat, left_flat}
use Rattle.flats.proofs.Bytes.{flat_back}
use Rattle.console.proofs.Places.{flat_rows_of, flat_rows}

-- a refusal by board, of the position that f means, gives back f
module _ (B : List ℤ) (f : FlatPosition) (m : means f ≡ true) where
  refuses_back : (n : ℕ) → flat_answer (refuses B (position_in f) n) ≡ refuses_flat B f n
  refuses_back n = ap (λ (g : FlatPosition). gives n (fault_of f.rows f.columns B n) g 0) (flat_back f m)

  answer_back : (a : Answer) → a ≡ refuses B (position_in f) a.number → flat_answer a ≡ refuses_flat B f a.number
  answer_back a e = ap flat_answer e ∙ refuses_back a.number

  pub outcome_back : (o : Outcome) (n : ℕ) (shown bits work : List ℕ) → o ≡ refused_at B n (desk (position_in f) shown bits) work
      → flat_outcome o ≡ leaves (refuses_flat B f n) (shown ∷ bits ∷ work ∷ [])
  outcome_back o n shown bits work e = ap flat_outcome e ∙ ap (λ (r : FlatAnswer). leaves r (shown ∷ bits ∷ work ∷ [])) (refuses_back n)

-- a call that answers only: board's answer a, or a refusal n of the bytes
answer_refused : (B : List ℤ) (f : FlatPosition) (a : Answer) (n : ℕ) → ((a.number ≡ 0 → ⊥) → a ≡ refuses B (position_in f) a.number)
    → ((pick (means f) (flat_answer a) (refuses_flat B f n)).number ≡ 0 → ⊥)
    → pick (means f) (flat_answer a) (refuses_flat B f n) ≡ refuses_flat B f (pick (means f) (flat_answer a) (refuses_flat B f n)).number
answer_refused B f a n e = go (means f) refl
  where
    go : (b : Bool) → means f ≡ b → ((pick b (flat_answer a) (refuses_flat B f n)).number ≡ 0 → ⊥)
        → pick b (flat_answer a) (refuses_flat B f n) ≡ refuses_flat B f (pick b (flat_answer a) (refuses_flat B f n)).number
    go true m h = answer_back B f m a (e h)
    go false m h = refl

module _ (B : List ℤ) (f : FlatPosition) (shown bits : List ℕ) where
  abbrev flow_fit : List ℕ → List ℕ → Bool
  flow_fit events work = boards_fit (settings_in f) B shown bits && (work_fits (settings_in f) work && eqb (length events % 3) 0)

  -- 20 to 33
  pub step_back : (code r c : ℕ) (work : List ℕ) → 20 ≤ (step_flat B code r c f shown bits work).answer.number
      → step_flat B code r c f shown bits work ≡ leaves (refuses_flat B f (step_flat B code r c f shown bits work).answer.number) (shown ∷ bits ∷ work ∷ [])
  unfolding step_flat
  step_back code r c work = go (means f) refl
    where
      no : ℕ
      no = unclear (lent_refusal B (desk (position_in f) shown bits) work)

      out : Bool → Leaves FlatAnswer
      out b = pick b (flat_outcome (step_of B code r c (desk (position_in f) shown bits) work)) (leaves (refuses_flat B f no) (shown ∷ bits ∷ work ∷ []))

      go : (b : Bool) → means f ≡ b → 20 ≤ (out b).answer.number → out b ≡ leaves (refuses_flat B f (out b).answer.number) (shown ∷ bits ∷ work ∷ [])
      go true m h = outcome_back B f m _ _ shown bits work (step_gives_back (position_in f) code r c B shown bits work _ _ _ _ refl h)
      go false m h = refl

  -- 20 to 264; a row that is refused at a later event keeps the steps before it
  pub flow_back : (events work : List ℕ) → (first (flat_rows_of (flow_fit events work) B f shown bits) ≡ 0 → ⊥)
      → flow_flat B events f shown bits work ≡ leaves (refuses_flat B f (first (flat_rows_of (flow_fit events work) B f shown bits))) (shown ∷ bits ∷ work ∷ [])
  unfolding flow_flat flow_refusal
  flow_back events work h = go (means f) refl (flat_rows (flow_fit events work) B f shown bits)
    where
      d : Desk
      d = desk (position_in f) shown bits

      n : ℕ
      n = first (flat_rows_of (flow_fit events work) B f shown bits)

      go : (b : Bool) → means f ≡ b → pick b (flow_refusal B events d work) (unclear (flow_refusal B events d work)) ≡ n
          → pick b (flat_outcome (flow_of B events d work)) (leaves (refuses_flat B f (unclear (flow_refusal B events d work))) (shown ∷ bits ∷ work ∷ []))
          ≡ leaves (refuses_flat B f n) (shown ∷ bits ∷ work ∷ [])
      go true m e =
          outcome_back B f m _ n shown bits work (flow_refused B d work events (λ z. h (sym e ∙ z)) ∙ ap (λ (k : ℕ). refused_at B k d work) e)
      go false m e = ap (λ (k : ℕ). leaves (refuses_flat B f k) (shown ∷ bits ∷ work ∷ [])) e

  pub left_back : (work : List ℕ) → ((left_flat B f shown bits work).answer.number ≡ 0 → ⊥)
      → left_flat B f shown bits work ≡ leaves (refuses_flat B f (left_flat B f shown bits work).answer.number) (work ∷ [])
  unfolding left_flat
  left_back work = go (means f) refl
    where
      d : Desk
      d = desk (position_in f) shown bits

      out : Bool → Leaves FlatAnswer
      out b = pick b (flat_asked (left_to_solve_of B d work)) (leaves (refuses_flat B f (unclear (lent_refusal B d work))) (work ∷ []))

      go : (b : Bool) → means f ≡ b → ((out b).answer.number ≡ 0 → ⊥) → out b ≡ leaves (refuses_flat B f (out b).answer.number) (work ∷ [])
      go true m h =
          let e = left_to_solve_gives_back (position_in f) B shown bits work _ _ refl h in
          ap flat_asked e ∙ ap (λ (t : FlatAnswer). leaves t (work ∷ [])) (refuses_back B f m (left_to_solve_of B d work).answer.number)
      go false m h = refl

  pub resolve_back : (code r c : ℕ) → ((resolve_flat B code r c f shown bits).number ≡ 0 → ⊥)
      → resolve_flat B code r c f shown bits ≡ refuses_flat B f (resolve_flat B code r c f shown bits).number
  unfolding resolve_flat
  resolve_back code r c = answer_refused B f _ _ (resolve_gives_back (position_in f) code r c B shown bits _ refl)

  pub state_back : (event : ℕ) → ((game_state_flat B event f shown bits).number ≡ 0 → ⊥)
      → game_state_flat B event f shown bits ≡ refuses_flat B f (game_state_flat B event f shown bits).number
  unfolding game_state_flat
  state_back event = answer_refused B f _ _ (step_game_state_gives_back (position_in f) B shown bits event _ refl)

  pub solved_back : ((bbbv_solved_flat B f shown bits).number ≡ 0 → ⊥) → bbbv_solved_flat B f shown bits ≡ refuses_flat B f (bbbv_solved_flat B f shown bits).number
  unfolding bbbv_solved_flat
  solved_back = answer_refused B f _ _ (bbbv_solved_gives_back (position_in f) B shown bits _ refl)

  pub reset_back : ((reset_flat B f shown bits).answer.number ≡ 0 → ⊥) → reset_flat B f shown bits ≡ leaves (refuses_flat B f (reset_flat B f shown bits).answer.number) (shown ∷ bits ∷ [])
  unfolding reset_flat reset_of setup_by
  reset_back = go (setup_refusal (settings_in f) B shown bits)
    where
      d : Desk
      d = fresh_desk (settings_in f) B

      out : Bool → ℕ → Leaves FlatAnswer
      out b n = reset_or f (pick b (set_up (answers 0 d.position 0) d.shown d.bits) (set_up (refuses B (position_in f) n) shown bits))

      by : (n : ℕ) (b : Bool) → eqb n 0 ≡ b → ((out b n).answer.number ≡ 0 → ⊥) → out b n ≡ leaves (refuses_flat B f (out b n).answer.number) (shown ∷ bits ∷ [])
      by n true e h = absurd (h refl)
      by n false e h = simp e

      go : (n : ℕ) → ((out (eqb n 0) n).answer.number ≡ 0 → ⊥) → out (eqb n 0) n ≡ leaves (refuses_flat B f (out (eqb n 0) n).answer.number) (shown ∷ bits ∷ [])
      go n = by n (eqb n 0) refl

-- setup is given no position: a refused one gives the fresh position of its settings
pub setup_back : (rows columns mode question rules : ℕ) (B : List ℤ) (shown bits : List ℕ) → (setup_refusal (settings_of rows columns mode question rules) B shown bits ≡ 0 → ⊥)
    → setup_flat rows columns mode question rules B shown bits
    ≡ leaves (refuses_flat B (flat_of (fresh_of (settings_of rows columns mode question rules) 0)) (setup_refusal (settings_of rows columns mode question rules) B shown bits)) (shown ∷ bits ∷ [])
unfolding setup_flat
setup_back rows columns mode question rules B shown bits h = ap flat_set_up (setup_refused (settings_of rows columns mode question rules) B shown bits h)
