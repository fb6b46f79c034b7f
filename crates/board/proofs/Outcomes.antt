-- One outcome for every input: any two outcomes that a call's promise allows are equal, answer, position, value and every lent list.
-- And a refusal returns its number with its place, the position given and the value 0, and writes nothing lent.
use Rattle.std.specs.Prelude.{Option, Some, None}
use mathlib.Core.Path.{◌≡◌, ◌∙◌, ap, refl, sym, subst⁻¹}
use mathlib.Core.Bool.{Bool, true, false, false≢true}
use mathlib.Core.List.{List}
use Prim.Native.Nat.{ℕ, ◌+◌, ◌≤◌}
use native.Mathlib.Omega.{arith}
use borrow.Author.Tests.{ne_eqb, le-leb, leb-true}
use lib.Dec.{eqb, leb, ltb}
use lib.IntN.{ℤ}
use Rattle.rules.specs.declared.Position.{Position}
use Rattle.rules.specs.declared.Settings.{Settings}
use Rattle.rules.specs.declared.Answer.{Answer}
use Rattle.rules.specs.declared.Value.{Value}
use Rattle.rules.specs.declared.Pointer.{Pointer}
use Rattle.rules.specs.declared.GameState.TheVariants.{Loss}
use Rattle.rules.specs.declared.Place.{Place}
use Rattle.rules.specs.Words.{pick, unless}
use Rattle.rules.specs.States.{fresh_of, with_game}
use Rattle.rules.specs.Board.{fault_of, numbering_refusal}
use Rattle.rules.specs.Lent.{work_after}
use Rattle.rules.specs.Opening.{opened_in}
use Rattle.rules.specs.Judging.{left_to_solve}
use Rattle.rules.specs.Clicks.{Desk, Play, desk, done}
use Rattle.rules.specs.Step.{event_refusal, plain_of, refusal_at, play_at, step_at, step_by_of, step_on, pointer_of, plain_code, plain_on}
use Rattle.rules.specs.Calls.{Outcome, outcome, SetUp, Totalled, Asked, Numbered, cells_in, answers, refuses, checks, set_up, refused, refused_at, accepted, played, setup_by, setup_refusal, setup_of, reset_of, total_refusal, total_of, numbering_of, position_check, lent_refusal, flow_refusal, resolve_of, step_of, flow_of, game_state_of, bbbv_solved_of, left_to_solve_of}
use Rattle.cells.proofs.Words.{one}
use Rattle.boards.proofs.Faults.{place_none}
use Rattle.game.proofs.Answers.{play_answers, refusal_refuses, refused_from}
use Rattle.rules.specs.Promises.{numbers, totals, asks, CheckBoardIs, NumberMinesIs, Total3bvIs, SetupIs, ResetIs, CheckPositionIs, StepGameStateIs, BbbvSolvedIs, LeftToSolveIs, StepIs, StepFlowIs}

-- ---- one outcome -----------------------------------------------------------------------------------------------------------------------

pub check_board_one : (rows columns : ℕ) (B : List ℤ) (r q : Value) → CheckBoardIs rows columns B r → CheckBoardIs rows columns B q → r ≡ q
check_board_one rows columns B r q h k = one h k

pub number_mines_one : (rows columns : ℕ) (list : List ℕ) (B : List ℤ) (r q : ℕ) (B' B'' : List ℤ) → NumberMinesIs rows columns list B r B' → NumberMinesIs rows columns list B q B''
    → (r ≡ q) × (B' ≡ B'')
number_mines_one rows columns list B r q B' B'' h k = let e = one h k in (ap (λ (o : Numbered). o.number) e, ap (λ (o : Numbered). o.board) e)

pub total_3bv_one : (rows columns : ℕ) (B : List ℤ) (work : List ℕ) (r q : Value) (work' work'' : List ℕ) → Total3bvIs rows columns B work r work' → Total3bvIs rows columns B work q work''
    → (r ≡ q) × (work' ≡ work'')
total_3bv_one rows columns B work r q work' work'' h k = let e = one h k in (ap (λ (o : Totalled). o.answer) e, ap (λ (o : Totalled). o.work) e)

set_up_one : (r q : Answer) (shown' shown'' bits' bits'' : List ℕ) → set_up r shown' bits' ≡ set_up q shown'' bits'' → (r ≡ q) × (shown' ≡ shown'') × (bits' ≡ bits'')
set_up_one r q shown' shown'' bits' bits'' e = (ap (λ (o : SetUp). o.answer) e, ap (λ (o : SetUp). o.shown) e, ap (λ (o : SetUp). o.bits) e)

pub setup_one : (s : Settings) (B : List ℤ) (shown bits : List ℕ) (r q : Answer) (shown' shown'' bits' bits'' : List ℕ) → SetupIs s B shown bits r shown' bits'
    → SetupIs s B shown bits q shown'' bits'' → (r ≡ q) × (shown' ≡ shown'') × (bits' ≡ bits'')
setup_one s B shown bits r q shown' shown'' bits' bits'' h k = set_up_one r q shown' shown'' bits' bits'' (one h k)

pub reset_one : (p : Position) (B : List ℤ) (shown bits : List ℕ) (r q : Answer) (shown' shown'' bits' bits'' : List ℕ) → ResetIs p B shown bits r shown' bits'
    → ResetIs p B shown bits q shown'' bits'' → (r ≡ q) × (shown' ≡ shown'') × (bits' ≡ bits'')
reset_one p B shown bits r q shown' shown'' bits' bits'' h k = set_up_one r q shown' shown'' bits' bits'' (one h k)

pub check_position_one : (p : Position) (B : List ℤ) (shown bits : List ℕ) (r q : Value) → CheckPositionIs p B shown bits r → CheckPositionIs p B shown bits q → r ≡ q
check_position_one p B shown bits r q h k = one h k

pub step_game_state_one : (p : Position) (B : List ℤ) (shown bits : List ℕ) (event : ℕ) (r q : Answer) → StepGameStateIs p B shown bits event r → StepGameStateIs p B shown bits event q → r ≡ q
step_game_state_one p B shown bits event r q h k = one h k

pub bbbv_solved_one : (p : Position) (B : List ℤ) (shown bits : List ℕ) (r q : Answer) → BbbvSolvedIs p B shown bits r → BbbvSolvedIs p B shown bits q → r ≡ q
bbbv_solved_one p B shown bits r q h k = one h k

pub left_to_solve_one : (p : Position) (B : List ℤ) (shown bits work : List ℕ) (r q : Answer) (work' work'' : List ℕ) → LeftToSolveIs p B shown bits work r work'
    → LeftToSolveIs p B shown bits work q work'' → (r ≡ q) × (work' ≡ work'')
left_to_solve_one p B shown bits work r q work' work'' h k = let e = one h k in (ap (λ (o : Asked). o.answer) e, ap (λ (o : Asked). o.work) e)

outcome_one : (r q : Answer) (shown' shown'' bits' bits'' work' work'' : List ℕ) → outcome r shown' bits' work' ≡ outcome q shown'' bits'' work''
    → (r ≡ q) × (shown' ≡ shown'') × (bits' ≡ bits'') × (work' ≡ work'')
outcome_one r q shown' shown'' bits' bits'' work' work'' e =
    (ap (λ (o : Outcome). o.answer) e, ap (λ (o : Outcome). o.shown) e, ap (λ (o : Outcome). o.bits) e, ap (λ (o : Outcome). o.work) e)

pub step_one : (p : Position) (code row column : ℕ) (B : List ℤ) (shown bits work : List ℕ) (r q : Answer) (shown' shown'' bits' bits'' work' work'' : List ℕ)
    → StepIs p code row column B shown bits work r shown' bits' work' → StepIs p code row column B shown bits work q shown'' bits'' work''
    → (r ≡ q) × (shown' ≡ shown'') × (bits' ≡ bits'') × (work' ≡ work'')
step_one p code row column B shown bits work r q shown' shown'' bits' bits'' work' work'' h k = outcome_one r q shown' shown'' bits' bits'' work' work'' (one h k)

pub step_flow_one : (p : Position) (events : List ℕ) (B : List ℤ) (shown bits work : List ℕ) (r q : Answer) (shown' shown'' bits' bits'' work' work'' : List ℕ)
    → StepFlowIs p events B shown bits work r shown' bits' work' → StepFlowIs p events B shown bits work q shown'' bits'' work''
    → (r ≡ q) × (shown' ≡ shown'') × (bits' ≡ bits'') × (work' ≡ work'')
step_flow_one p events B shown bits work r q shown' shown'' bits' bits'' work' work'' h k = outcome_one r q shown' shown'' bits' bits'' work' work'' (one h k)

-- ---- a refusal writes nothing ----------------------------------------------------------------------------------------------------------

pub number_mines_refused : (rows columns : ℕ) (list : List ℕ) (B : List ℤ) → (numbering_refusal rows columns list B ≡ 0 → ⊥)
    → numbering_of rows columns list B ≡ numbers (numbering_refusal rows columns list B) B
unfolding numbering_of
number_mines_refused rows columns list B h = simp (ne_eqb _ _ h)

pub total_3bv_refused : (rows columns : ℕ) (B : List ℤ) (work : List ℕ) → (total_refusal rows columns B work ≡ 0 → ⊥)
    → total_of rows columns B work ≡ totals (checks rows columns B (total_refusal rows columns B work)) work
unfolding total_of
total_3bv_refused rows columns B work h = simp (ne_eqb _ _ h)

pub setup_refused : (s : Settings) (B : List ℤ) (shown bits : List ℕ) → (setup_refusal s B shown bits ≡ 0 → ⊥)
    → setup_of s B shown bits ≡ set_up (refuses B (fresh_of s 0) (setup_refusal s B shown bits)) shown bits
unfolding setup_of setup_by
setup_refused s B shown bits h = simp (ne_eqb _ _ h)

pub reset_refused : (B : List ℤ) (d : Desk) → (setup_refusal d.position.settings B d.shown d.bits ≡ 0 → ⊥)
    → reset_of B d ≡ set_up (refuses B d.position (setup_refusal d.position.settings B d.shown d.bits)) d.shown d.bits
unfolding reset_of setup_by
reset_refused B d h = simp (ne_eqb _ _ h)

module _ (B : List ℤ) (d : Desk) (h : position_check B d ≡ 0 → ⊥) where
  pub resolve_refused : (code r c : ℕ) → resolve_of B code r c d ≡ refuses B d.position (position_check B d)
  unfolding resolve_of
  resolve_refused code r c = simp (ne_eqb _ _ h)

  pub step_game_state_refused : (event : ℕ) → game_state_of B event d ≡ refuses B d.position (position_check B d)
  unfolding game_state_of
  step_game_state_refused event = simp (ne_eqb _ _ h)

  pub bbbv_solved_refused : bbbv_solved_of B d ≡ refuses B d.position (position_check B d)
  unfolding bbbv_solved_of
  bbbv_solved_refused = simp (ne_eqb _ _ h)

module _ (B : List ℤ) (d : Desk) (work : List ℕ) where
  pub left_to_solve_refused : (lent_refusal B d work ≡ 0 → ⊥) → left_to_solve_of B d work ≡ asks (refuses B d.position (lent_refusal B d work)) work
  unfolding left_to_solve_of
  left_to_solve_refused h = simp (ne_eqb _ _ h)

  -- by 20 to 264
  pub step_refused : (code r c : ℕ) → (lent_refusal B d work ≡ 0 → ⊥) → step_of B code r c d work ≡ refused_at B (lent_refusal B d work) d work
  unfolding step_of
  step_refused code r c h = simp (ne_eqb _ _ h)

  pub flow_refused : (events : List ℕ) → (flow_refusal B events d work ≡ 0 → ⊥) → flow_of B events d work ≡ refused_at B (flow_refusal B events d work) d work
  unfolding flow_of
  flow_refused events h = simp (ne_eqb _ _ h)

-- ---- whatever the number, all is given back --------------------------------------------------------------------------------------------

-- an event that is refused leaves the desk as it was
pub event_back : (B : List ℤ) (code r c : ℕ) (d : Desk) → 20 ≤ (step_on B code r c d).answer → (step_on B code r c d).desk ≡ d
unfolding step_on step_by_of step_at
event_back B code r c d = by (pointer_of d.position.settings r c)
  where
    at : (x : Pointer) (b : Bool) → 20 ≤ (pick b (play_at B code x d) (done (refusal_at code x d) d)).answer → (pick b (play_at B code x d) (done (refusal_at code x d) d)).desk ≡ d
    at x true h = let s = (play_answers B code x d).small in absurd (omega arith)
    at x false h = refl

    by : (w : Option Pointer) → 20 ≤ (step_by_of B code w d).answer → (step_by_of B code w d).desk ≡ d
    by (Some x) h = at x (eqb (refusal_at code x d) 0) h
    by None h = refl

-- and its number is 30 to 33, which has no place
pub event_far : (B : List ℤ) (code r c : ℕ) (d : Desk) → 20 ≤ (step_on B code r c d).answer → 30 ≤ (step_on B code r c d).answer
unfolding step_on step_by_of step_at refusal_at
event_far B code r c d = by (pointer_of d.position.settings r c)
  where
    refusal : Pointer → ℕ
    refusal x = unless 31 (ltb d.position.events 65535) (event_refusal d.position.game (plain_of code x d) d)

    at : (x : Pointer) (b : Bool) → 20 ≤ (pick b (play_at B code x d) (done (refusal x) d)).answer → 30 ≤ (pick b (play_at B code x d) (done (refusal x) d)).answer
    at x true h = let s = (play_answers B code x d).small in absurd (omega arith)
    at x false h = refused_from (refusal x) (refusal_refuses (plain_of code x d) d) (λ (z : refusal x ≡ 0). omega arith)

    by : (w : Option Pointer) → 20 ≤ (step_by_of B code w d).answer → 30 ≤ (step_by_of B code w d).answer
    by (Some x) h = at x (eqb (refusal_at code x d) 0) h
    by None h = omega arith

-- a number that has no place
far : (B : List ℤ) (n : ℕ) (d : Desk) (work : List ℕ) → 30 ≤ n → refused n d work ≡ refused_at B n d work
far B n d work h =
    ap (λ (x : Place). outcome (record { number = n; place = x; position = d.position; value = 0 }) d.shown d.bits work)
    (sym (place_none d.position.settings.rows d.position.settings.columns B n (λ (e : n ≡ 22). omega arith) (λ (e : n ≡ 23). omega arith)))

-- a call that is refused with n, or plays o
abbrev pub called : List ℤ → ℕ → Desk → List ℕ → Play → Outcome
called B n d work o = pick (eqb n 0) (played d.shown o work) (refused_at B n d work)

pub called_whole : (B : List ℤ) (n : ℕ) (d : Desk) (work : List ℕ) (o : Play) → (20 ≤ o.answer → o.desk ≡ d) → (20 ≤ o.answer → 30 ≤ o.answer)
    → 20 ≤ (called B n d work o).answer.number → called B n d work o ≡ refused_at B (called B n d work o).answer.number d work
called_whole B n d work o back past = at (eqb n 0)
  where
    out : Bool → Outcome
    out b = pick b (refused o.answer o.desk work) (accepted o.answer (opened_in d.shown o.desk.shown) o.desk work)

    by : (b : Bool) → leb 20 o.answer ≡ b → 20 ≤ (out b).answer.number → out b ≡ refused_at B (out b).answer.number d work
    by true e h = ap (λ (x : Desk). refused o.answer x work) (back (leb-true _ _ e)) ∙ far B o.answer d work (past (leb-true _ _ e))
    by false e h = absurd (false≢true (sym e ∙ le-leb _ _ h))

    at : (b : Bool) → 20 ≤ (pick b (played d.shown o work) (refused_at B n d work)).answer.number
        → pick b (played d.shown o work) (refused_at B n d work) ≡ refused_at B (pick b (played d.shown o work) (refused_at B n d work)).answer.number d work
    at true h = by (leb 20 o.answer) refl h
    at false h = refl

step_whole : (B : List ℤ) (code r c : ℕ) (d : Desk) (work : List ℕ) → 20 ≤ (step_of B code r c d work).answer.number
    → step_of B code r c d work ≡ refused_at B (step_of B code r c d work).answer.number d work
unfolding step_of
step_whole B code r c d work =
    called_whole B (lent_refusal B d work) d work (plain_on B code r c d) (event_back B (plain_code code) r c d) (event_far B (plain_code code) r c d)

-- a step answers 0 to 4, or it is refused: 20 to 264, 30 to 33
pub step_gives_back : (p : Position) (code row column : ℕ) (B : List ℤ) (shown bits work : List ℕ) (r : Answer) (shown' bits' work' : List ℕ)
    → StepIs p code row column B shown bits work r shown' bits' work' → 20 ≤ r.number → outcome r shown' bits' work' ≡ refused_at B r.number (desk p shown bits) work
step_gives_back p code row column B shown bits work r shown' bits' work' h =
    subst⁻¹ (λ (o : Outcome). 20 ≤ o.answer.number → o ≡ refused_at B o.answer.number (desk p shown bits) work) h (step_whole B code row column (desk p shown bits) work)

module _ (p : Position) (B : List ℤ) (shown bits : List ℕ) where
  -- the other calls answer 0, or they are refused: 20 to 264, and `step_game_state` with 33 too
  pub step_game_state_gives_back : (event : ℕ) (r : Answer) → StepGameStateIs p B shown bits event r → (r.number ≡ 0 → ⊥) → r ≡ refuses B p r.number
  unfolding game_state_of fault_of
  step_game_state_gives_back event r h = subst⁻¹ (λ (a : Answer). (a.number ≡ 0 → ⊥) → a ≡ refuses B p a.number) h (go (eqb (position_check B (desk p shown bits)) 0) (leb event 1))
    where
      out : Bool → Bool → Answer
      out b t = pick b (pick t (answers 0 (with_game p Loss) 0) (answers 33 p 0)) (refuses B p (position_check B (desk p shown bits)))

      go : (b t : Bool) → ((out b t).number ≡ 0 → ⊥) → out b t ≡ refuses B p (out b t).number
      go true true z = absurd (z refl)
      go true false z = refl
      go false t z = refl

  pub bbbv_solved_gives_back : (r : Answer) → BbbvSolvedIs p B shown bits r → (r.number ≡ 0 → ⊥) → r ≡ refuses B p r.number
  unfolding bbbv_solved_of
  bbbv_solved_gives_back r h = subst⁻¹ (λ (a : Answer). (a.number ≡ 0 → ⊥) → a ≡ refuses B p a.number) h (go (eqb (position_check B (desk p shown bits)) 0))
    where
      out : Bool → Answer
      out b = pick b (answers 0 p (p.secrets.solved_left + p.secrets.solved_chord)) (refuses B p (position_check B (desk p shown bits)))

      go : (b : Bool) → ((out b).number ≡ 0 → ⊥) → out b ≡ refuses B p (out b).number
      go true z = absurd (z refl)
      go false z = refl

  pub left_to_solve_gives_back : (work : List ℕ) (r : Answer) (work' : List ℕ) → LeftToSolveIs p B shown bits work r work' → (r.number ≡ 0 → ⊥)
      → asks r work' ≡ asks (refuses B p r.number) work
  unfolding left_to_solve_of
  left_to_solve_gives_back work r work' h =
      subst⁻¹ (λ (o : Asked). (o.answer.number ≡ 0 → ⊥) → o ≡ asks (refuses B p o.answer.number) work) h (go (eqb (lent_refusal B (desk p shown bits) work) 0))
    where
      out : Bool → Asked
      out b =
          pick b
          (asks (answers 0 p (left_to_solve B p.settings.rows p.settings.columns shown)) (work_after (cells_in p.settings) work))
          (asks (refuses B p (lent_refusal B (desk p shown bits) work)) work)

      go : (b : Bool) → ((out b).answer.number ≡ 0 → ⊥) → out b ≡ asks (refuses B p (out b).answer.number) work
      go true z = absurd (z refl)
      go false z = refl
