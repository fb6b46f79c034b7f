-- No call, accepted or refused, leads from a position that the position check accepts to one that it does not; and setup leads to one that it accepts.
-- No call changes the settings, so none the league's rules.
use Rattle.std.specs.Prelude.{Option, Some, None}
use Rattle.rules.specs.declared.Pointer.{Pointer}
use mathlib.Core.Path.{◌≡◌, ◌∙◌, sym, refl, ap}
use mathlib.Core.Bool.{Bool, true, false, true≢false}
use mathlib.Core.List.{List}
use Prim.Native.Nat.{ℕ}
use borrow.Author.Tests.{eqb-true, eq-eqb}
use lib.Dec.{eqb, leb, ltb}
use lib.IntN.{ℤ}
use lib.ListN.{get_or}
use Rattle.rules.specs.declared.Settings.{Settings}
use Rattle.rules.specs.declared.Position.{Position}
use Rattle.rules.specs.declared.Answer.{Answer}
use Rattle.rules.specs.declared.GameState.TheVariants.{Loss}
use Rattle.rules.specs.Words.{pick, unless}
use Rattle.rules.specs.States.{mouse_number, is_loss, with_game, with_middle, fresh_of}
use Rattle.rules.specs.Board.{face_at}
use Rattle.rules.specs.Clicks.{Desk, Play, done, on}
use Rattle.rules.specs.Mouse.{rules_ok, resolved, flipped}
use Rattle.rules.specs.Step.{pointer_of, plain_code, plain_on}
use Rattle.rules.specs.Lawful.{cell_lawful, unopened_in}
use Rattle.rules.specs.Calls.{left_by, set_by, Outcome, SetUp, boards_fit, fresh_desk, setup_by, setup_refusal, reset_of, answers, refuses, set_up, position_check, lent_refusal, resolve_by, resolve_of, refused, refused_at, accepted, played, tested, step_of, plays, last_play, flowed, flow_refusal, flow_of, game_state_of, setup_of}
use Rattle.rules.specs.Opening.{opened_in}
use Rattle.cells.proofs.Words.{pick_both, unless_passed}
use Rattle.keep.specs.Kept.{LawfulAt, Follows}
use Rattle.keep.proofs.Lawful.{settings_accepted, accepted_ground, check_lawful, lent_lawful, flow_lawful, settings_check, check_passes}
use Rattle.keep.proofs.Fresh.{fresh_lawful}
use Rattle.keep.proofs.Opened.{lawful_later}
use Rattle.keep.proofs.Moves.{middle_keeps}
use Rattle.keep.proofs.Step.{step_follows, step_check, plays_follow}

-- the fresh desk of settings that setup did not refuse
pub setup_lawful : (s : Settings) (B : List ℤ) (shown bits : List ℕ) → setup_refusal s B shown bits ≡ 0 → LawfulAt B (fresh_desk s B)
unfolding setup_refusal
setup_lawful s B shown bits e =
    let a = settings_accepted s (boards_fit s B shown bits) B (unless 45 (rules_ok s.rules) 0) e in
    let g = accepted_ground shown bits a.0 a.0.fits in
    fresh_lawful B s g.mined g.numbers

-- Loss by `step_game_state`
pub lost_lawful : (B : List ℤ) (d : Desk) → LawfulAt B d → LawfulAt B (on d (with_game d.position Loss))
lost_lawful B d l =
    let h = l.kept.sound in
    record {
      kept = record {
        sound = record {
          ground = h.ground;
          bounded = h.bounded;
          double = h.double;
          solved = h.solved;
          flag = h.flag;
          unopened = h.unopened;
          wrong = h.wrong;
          cells = λ i lt. lost_cell (is_loss d.position.game) (face_at B i) (get_or d.shown i 0) (h.cells i lt);
          mines = h.mines;
        };
        preflags = l.kept.preflags;
        held = l.kept.held;
        phase = tt;
      };
      few = l.few;
    }
  where
    lost_cell : (t : Bool) (f x : ℕ) → cell_lawful d.position.settings.question t f x ≡ true → cell_lawful d.position.settings.question true f x ≡ true
    lost_cell true f x e = e
    lost_cell false f x e = lawful_later d.position.settings.question true f x e

-- ---- each call ---------------------------------------------------------------------------------------------------------------------------

abbrev Accepts : List ℤ → Desk → Type 0
Accepts B d = position_check B d ≡ 0

-- setup
pub setup_keeps : (s : Settings) (B : List ℤ) (shown bits : List ℕ) → setup_refusal s B shown bits ≡ 0 → Accepts B (fresh_desk s B)
unfolding setup_refusal
setup_keeps s B shown bits e =
    let rest = unless 45 (rules_ok s.rules) 0 in
    let ruled = (unless_passed 44 (rules_ok s.rules) 0 (settings_accepted s (boards_fit s B shown bits) B rest e).2).0 in
    settings_check s (boards_fit s B shown bits) B rest (fresh_desk s B) e ruled refl (setup_lawful s B shown bits e)

setup_by_lem : (B : List ℤ) (d : Desk) (n : ℕ) → (n ≡ 0 → Accepts B (fresh_desk d.position.settings B)) → Accepts B d
    → Accepts B (set_by (setup_by n B d.position d.position.settings d.shown d.bits))
unfolding setup_by
setup_by_lem B d n h e =
    pick_both (λ (o : SetUp). Accepts B (set_by o)) (eqb n 0)
    (set_up (answers 0 f.position 0) f.shown f.bits) (set_up (refuses B d.position n) d.shown d.bits)
    (λ z. h (eqb-true n 0 z)) (λ _. e)
  where
    f : Desk
    f = fresh_desk d.position.settings B

-- reset
pub reset_keeps : (B : List ℤ) (d : Desk) → Accepts B d → Accepts B (set_by (reset_of B d))
unfolding reset_of
reset_keeps B d e =
    setup_by_lem B d (setup_refusal d.position.settings B d.shown d.bits) (setup_keeps d.position.settings B d.shown d.bits) e

-- resolve
resolve_by_keeps : (B : List ℤ) (code : ℕ) (w : Option Pointer) (d : Desk) → Accepts B d → Accepts B (on d (resolve_by code w d.position).position)
unfolding resolve_by
resolve_by_keeps B code None d e = e
resolve_by_keeps B code (Some x) d e =
    let l = check_lawful B d e in
    let flip = flipped code d.position.middle in
    pick_both (λ (a : Answer). Accepts B (on d a.position)) (ltb d.position.events 65535)
    (answers 0 (with_middle d.position flip) (resolved d.position.settings.rules code (mouse_number d.position.mouse) d.position.middle)) (answers 31 d.position 0)
    (λ _. check_passes B d (on d (with_middle d.position flip)) e refl (record { kept = middle_keeps flip l.kept; few = l.few })) (λ _. e)

pub resolve_call_keeps : (B : List ℤ) (code r c : ℕ) (d : Desk) → Accepts B d → Accepts B (on d (resolve_of B code r c d).position)
unfolding resolve_of
resolve_call_keeps B code r c d e =
    let w = pointer_of d.position.settings r c in
    pick_both (λ (a : Answer). Accepts B (on d a.position)) (eqb (position_check B d) 0) (resolve_by code w d.position) (refuses B d.position (position_check B d))
    (λ _. resolve_by_keeps B code w d e) (λ _. e)

-- step
tested_keeps : (B : List ℤ) (d : Desk) (work : List ℕ) (o : Play) → Accepts B d → Accepts B o.desk → Accepts B (left_by (tested B d work o))
tested_keeps B d work o e h =
    pick_both (λ (x : Outcome). Accepts B (left_by x)) (eqb (lent_refusal B d work) 0) (played d.shown o work) (refused_at B (lent_refusal B d work) d work)
    (λ _. pick_both (λ (x : Outcome). Accepts B (left_by x)) (leb 20 o.answer)
    (refused o.answer o.desk work) (accepted o.answer (opened_in d.shown o.desk.shown) o.desk work) (λ _. h) (λ _. h))
    (λ _. e)

pub step_call_keeps : (B : List ℤ) (code r c : ℕ) (d : Desk) (work : List ℕ) → Accepts B d → Accepts B (left_by (step_of B code r c d work))
unfolding step_of
step_call_keeps B code r c d work e = tested_keeps B d work (plain_on B code r c d) e (step_check B (plain_code code) r c d e)

-- step_flow
pub flow_call_keeps : (B : List ℤ) (events : List ℕ) (d : Desk) (work : List ℕ) → Accepts B d → Accepts B (left_by (flow_of B events d work))
unfolding flow_of
flow_call_keeps B events d work e =
    let f : Follows B d (last_play (done 0 d) (plays B events d)).desk =
    plays_follow B events d (done 0 d) (record { lawful = check_lawful B d e; settings = refl; told = λ t. t }) in
    pick_both (λ (o : Outcome). Accepts B (left_by o)) (eqb (flow_refusal B events d work) 0)
    (flowed (plays B events d) (last_play (done 0 d) (plays B events d)) work) (refused_at B (flow_refusal B events d work) d work)
    (λ _. check_passes B d (last_play (done 0 d) (plays B events d)).desk e f.settings f.lawful) (λ _. e)

-- step_game_state
pub game_state_keeps : (B : List ℤ) (event : ℕ) (d : Desk) → Accepts B d → Accepts B (on d (game_state_of B event d).position)
unfolding game_state_of
game_state_keeps B event d e =
    pick_both (λ (a : Answer). Accepts B (on d a.position)) (eqb (position_check B d) 0)
    (pick (leb event 1) (answers 0 (with_game d.position Loss) 0) (answers 33 d.position 0)) (refuses B d.position (position_check B d))
    (λ _. pick_both (λ (a : Answer). Accepts B (on d a.position)) (leb event 1) (answers 0 (with_game d.position Loss) 0) (answers 33 d.position 0)
    (λ _. check_passes B d (on d (with_game d.position Loss)) e refl (lost_lawful B d (check_lawful B d e))) (λ _. e))
    (λ _. e)

-- ---- the safe cells still closed -------------------------------------------------------------------------------------------------------

abbrev Right : List ℤ → Desk → Type 0
Right B d = d.position.counts.unopened ≡ unopened_in B d.shown

-- every accepted call leaves their number right, and setup and reset make it so, whatever was given to them
pub record UnopenedRight (B : List ℤ) : Type 0 where
  pub check : (d : Desk) → Accepts B d → Right B d
  pub setup : (s : Settings) (shown bits : List ℕ) → setup_refusal s B shown bits ≡ 0 → Right B (set_by (setup_of s B shown bits))
  pub reset : (d : Desk) → setup_refusal d.position.settings B d.shown d.bits ≡ 0 → Right B (set_by (reset_of B d))
  pub resolve : (code r c : ℕ) (d : Desk) → Accepts B d → Right B (on d (resolve_of B code r c d).position)
  pub step : (code r c : ℕ) (d : Desk) (work : List ℕ) → Accepts B d → Right B (left_by (step_of B code r c d work))
  pub flow : (events : List ℕ) (d : Desk) (work : List ℕ) → Accepts B d → Right B (left_by (flow_of B events d work))
  pub state : (event : ℕ) (d : Desk) → Accepts B d → Right B (on d (game_state_of B event d).position)

checked_right : (B : List ℤ) (d : Desk) → Accepts B d → Right B d
checked_right B d e = (check_lawful B d e).kept.sound.unopened

set_right : (B : List ℤ) (otherwise : Position) (s : Settings) (shown bits : List ℕ) → setup_refusal s B shown bits ≡ 0
    → Right B (set_by (setup_by (setup_refusal s B shown bits) B otherwise s shown bits))
unfolding setup_by
set_right B otherwise s shown bits e =
    let f = fresh_desk s B in
    let n = setup_refusal s B shown bits in
    pick_both (λ (o : SetUp). Right B (set_by o)) (eqb n 0) (set_up (answers 0 f.position 0) f.shown f.bits) (set_up (refuses B otherwise n) shown bits)
    (λ _. (setup_lawful s B shown bits e).kept.sound.unopened) (λ w. absurd (true≢false (sym (eq-eqb _ _ e) ∙ w)))

pub unopened_right : (B : List ℤ) → UnopenedRight B
unfolding setup_of reset_of
unopened_right B = record {
  check = checked_right B;
  setup = λ s shown bits e. set_right B (fresh_of s 0) s shown bits e;
  reset = λ d e. set_right B d.position d.position.settings d.shown d.bits e;
  resolve = λ code r c d e. checked_right B _ (resolve_call_keeps B code r c d e);
  step = λ code r c d work e. checked_right B _ (step_call_keeps B code r c d work e);
  flow = λ events d work e. checked_right B _ (flow_call_keeps B events d work e);
  state = λ event d e. checked_right B _ (game_state_keeps B event d e);
}

-- ---- the rules -------------------------------------------------------------------------------------------------------------------------

-- an answer with the position's own settings
abbrev Settled : Desk → Answer → Type 0
Settled d a = a.position.settings ≡ d.position.settings

settled_rules : (d : Desk) (a : Answer) → Settled d a → a.position.settings.rules ≡ d.position.settings.rules
settled_rules d a e = ap (λ (s : Settings). s.rules) e

-- reset
reset_settled : (B : List ℤ) (d : Desk) → Settled d (reset_of B d).answer
unfolding reset_of setup_by
reset_settled B d =
    let f = fresh_desk d.position.settings B in
    let n = setup_refusal d.position.settings B d.shown d.bits in
    pick_both (λ (o : SetUp). Settled d o.answer) (eqb n 0) (set_up (answers 0 f.position 0) f.shown f.bits) (set_up (refuses B d.position n) d.shown d.bits)
    (λ _. refl) (λ _. refl)

pub reset_rules : (B : List ℤ) (d : Desk) → (reset_of B d).answer.position.settings.rules ≡ d.position.settings.rules
reset_rules B d = settled_rules d (reset_of B d).answer (reset_settled B d)

-- resolve
resolve_settled : (code : ℕ) (w : Option Pointer) (B : List ℤ) (d : Desk) → Settled d (pick (eqb (position_check B d) 0) (resolve_by code w d.position) (refuses B d.position (position_check B d)))
unfolding resolve_by
resolve_settled code w B d =
    pick_both (Settled d) (eqb (position_check B d) 0) (resolve_by code w d.position) (refuses B d.position (position_check B d)) (λ _. go w) (λ _. refl)
  where
    go : (w : Option Pointer) → Settled d (resolve_by code w d.position)
    go None = refl
    go (Some x) =
        pick_both (Settled d) (ltb d.position.events 65535)
        (answers 0 (with_middle d.position (flipped code d.position.middle)) (resolved d.position.settings.rules code (mouse_number d.position.mouse) d.position.middle))
        (answers 31 d.position 0) (λ _. refl) (λ _. refl)

pub resolve_rules : (B : List ℤ) (code r c : ℕ) (d : Desk) → (resolve_of B code r c d).position.settings.rules ≡ d.position.settings.rules
unfolding resolve_of
resolve_rules B code r c d = settled_rules d (resolve_of B code r c d) (resolve_settled code (pointer_of d.position.settings r c) B d)

-- step
step_settled : (B : List ℤ) (code r c : ℕ) (d : Desk) (work : List ℕ) → Settled d (step_of B code r c d work).answer
unfolding step_of
step_settled B code r c d work =
    let o = plain_on B code r c d in
    pick_both (λ (x : Outcome). Settled d x.answer) (eqb (lent_refusal B d work) 0) (played d.shown o work) (refused_at B (lent_refusal B d work) d work)
    (λ z. let f = step_follows B (plain_code code) r c d (lent_lawful B d work (eqb-true _ _ z)) in
    pick_both (λ (x : Outcome). Settled d x.answer) (leb 20 o.answer)
    (refused o.answer o.desk work) (accepted o.answer (opened_in d.shown o.desk.shown) o.desk work)
    (λ _. f.settings) (λ _. f.settings))
    (λ _. refl)

pub step_rules : (B : List ℤ) (code r c : ℕ) (d : Desk) (work : List ℕ) → (step_of B code r c d work).answer.position.settings.rules ≡ d.position.settings.rules
step_rules B code r c d work = settled_rules d (step_of B code r c d work).answer (step_settled B code r c d work)

-- step_flow
flow_settled : (B : List ℤ) (events : List ℕ) (d : Desk) (work : List ℕ) → Settled d (flow_of B events d work).answer
unfolding flow_of
flow_settled B events d work =
    pick_both (λ (o : Outcome). Settled d o.answer) (eqb (flow_refusal B events d work) 0)
    (flowed (plays B events d) (last_play (done 0 d) (plays B events d)) work) (refused_at B (flow_refusal B events d work) d work)
    (λ z. (plays_follow B events d (done 0 d) (record { lawful = flow_lawful B events d work (eqb-true _ _ z); settings = refl; told = λ t. t })).settings)
    (λ _. refl)

pub flow_rules : (B : List ℤ) (events : List ℕ) (d : Desk) (work : List ℕ) → (flow_of B events d work).answer.position.settings.rules ≡ d.position.settings.rules
flow_rules B events d work = settled_rules d (flow_of B events d work).answer (flow_settled B events d work)

-- step_game_state
state_settled : (B : List ℤ) (event : ℕ) (d : Desk) → Settled d (game_state_of B event d)
unfolding game_state_of
state_settled B event d =
    pick_both (Settled d) (eqb (position_check B d) 0)
    (pick (leb event 1) (answers 0 (with_game d.position Loss) 0) (answers 33 d.position 0)) (refuses B d.position (position_check B d))
    (λ _. pick_both (Settled d) (leb event 1) (answers 0 (with_game d.position Loss) 0) (answers 33 d.position 0) (λ _. refl) (λ _. refl))
    (λ _. refl)

pub state_rules : (B : List ℤ) (event : ℕ) (d : Desk) → (game_state_of B event d).position.settings.rules ≡ d.position.settings.rules
state_rules B event d = settled_rules d (game_state_of B event d) (state_settled B event d)
