-- The class's calls: in mode 0 they are the board's but for forbidden codes; every other mode is 25; the lawful position is kept. Assumes nothing.
use mathlib.Core.Path.{◌≡◌, refl, sym, ap, ◌∙◌}
use mathlib.Core.Bool.{Bool, true, false, ◌&&◌, true≢false}
use mathlib.Core.List.{List}
use Prim.Native.Nat.{ℕ}
use borrow.Author.Tests.{eqb-true, eq-eqb, ne_eqb}
use lib.Dec.{eqb, leb}
use lib.IntN.{ℤ}
use Rattle.rules.specs.declared.Settings.{Settings}
use Rattle.rules.specs.States.{fresh_of}
use Rattle.rules.specs.Words.{pick, unless}
use Rattle.rules.specs.Board.{board_refusal}
use Rattle.rules.specs.Clicks.{Desk, Play}
use Rattle.rules.specs.Mouse.{rules_ok}
use Rattle.rules.specs.Opening.{opened_in}
use Rattle.rules.specs.Lawful.{lawful_refusal}
use Rattle.rules.specs.Calls.{
  Outcome,
  left_by,
  boards_fit,
  work_fits,
  mode_ok,
  settings_refusal,
  position_refusal,
  position_check,
  lent_refusal,
  fresh_desk,
  setup_by,
  setup_refusal,
  setup_of,
  refused,
  refused_at,
  accepted,
  played,
  tested,
}
use Rattle.rules.specs.Step.{step_on}
use Rattle.cells.proofs.Words.{pick_both, unless_passed}
use Rattle.keep.proofs.Calls.{setup_keeps}
use Rattle.rules.specs.Noflag.{forbidden, class_step_on, class_settings_refusal, class_setup_refusal, class_setup_of, class_lent_refusal, class_step_of}
use Rattle.noflag.specs.Calls.{ClassCalls}
use Rattle.noflag.proofs.Same.{class_same}
use Rattle.noflag.proofs.Lawful.{class_lawful}

-- ---- mode 0 ------------------------------------------------------------------------------------------------------------------------------

settings_same : (s : Settings) (fit : Bool) (B : List ℤ) (rest : ℕ) → s.mode ≡ 0 → class_settings_refusal s fit B rest ≡ settings_refusal s fit B rest
unfolding class_settings_refusal settings_refusal mode_ok
settings_same s fit B rest e =
    let n : ℕ = board_refusal s.rows s.columns fit B in
    ap (λ (m : ℕ). pick (eqb n 0) (unless 25 (eqb m 0) rest) n) e ∙ sym (ap (λ (m : ℕ). pick (eqb n 0) (unless 25 (mode_ok m) rest) n) e)

pub setup_refusal_same : (s : Settings) (B : List ℤ) (shown bits : List ℕ) → s.mode ≡ 0 → class_setup_refusal s B shown bits ≡ setup_refusal s B shown bits
unfolding class_setup_refusal setup_refusal
setup_refusal_same s B shown bits e = settings_same s (boards_fit s B shown bits) B (unless 45 (rules_ok s.rules) 0) e

pub setup_same : (s : Settings) (B : List ℤ) (shown bits : List ℕ) → s.mode ≡ 0 → class_setup_of s B shown bits ≡ setup_of s B shown bits
unfolding class_setup_of setup_of
setup_same s B shown bits e = ap (λ (n : ℕ). setup_by n B (fresh_of s 0) s shown bits) (setup_refusal_same s B shown bits e)

pub lent_same : (B : List ℤ) (d : Desk) (work : List ℕ) → d.position.settings.mode ≡ 0 → class_lent_refusal B d work ≡ lent_refusal B d work
unfolding class_lent_refusal lent_refusal position_refusal
lent_same B d work e =
    settings_same d.position.settings
    (boards_fit d.position.settings B d.shown d.bits && work_fits d.position.settings work) B (lawful_refusal B d) e

-- the class's step is a call that tests 20 to 264 as the board's does, and plays the class's event
pub step_tested : (B : List ℤ) (code r c : ℕ) (d : Desk) (work : List ℕ) → d.position.settings.mode ≡ 0
    → class_step_of B code r c d work ≡ tested B d work (class_step_on B code r c d)
unfolding class_step_of
step_tested B code r c d work e =
    ap (λ (n : ℕ). pick (eqb n 0) (played d.shown (class_step_on B code r c d) work) (refused_at B n d work)) (lent_same B d work e)

pub step_same : (B : List ℤ) (code r c : ℕ) (d : Desk) (work : List ℕ) → d.position.settings.mode ≡ 0 → forbidden code ≡ false
    → class_step_of B code r c d work ≡ tested B d work (step_on B code r c d)
step_same B code r c d work e f = step_tested B code r c d work e ∙ ap (tested B d work) (class_same B code r c d f)

-- ---- every other mode ----------------------------------------------------------------------------------------------------------------------

pub settings_mode : (s : Settings) (fit : Bool) (B : List ℤ) (rest : ℕ) → board_refusal s.rows s.columns fit B ≡ 0 → (s.mode ≡ 0 → ⊥)
    → class_settings_refusal s fit B rest ≡ 25
unfolding class_settings_refusal
settings_mode s fit B rest e m = simp (eq-eqb _ _ e, ne_eqb _ _ m)

setup_mode : (s : Settings) (B : List ℤ) (shown bits : List ℕ) → board_refusal s.rows s.columns (boards_fit s B shown bits) B ≡ 0
    → (s.mode ≡ 0 → ⊥) → class_setup_refusal s B shown bits ≡ 25
unfolding class_setup_refusal
setup_mode s B shown bits e m = settings_mode s (boards_fit s B shown bits) B (unless 45 (rules_ok s.rules) 0) e m

step_mode : (B : List ℤ) (d : Desk) (work : List ℕ)
    → board_refusal d.position.settings.rows d.position.settings.columns
    (boards_fit d.position.settings B d.shown d.bits && work_fits d.position.settings work) B ≡ 0
    → (d.position.settings.mode ≡ 0 → ⊥) → class_lent_refusal B d work ≡ 25
unfolding class_lent_refusal
step_mode B d work e m =
    settings_mode d.position.settings
    (boards_fit d.position.settings B d.shown d.bits && work_fits d.position.settings work) B (lawful_refusal B d) e m

-- a chain that refuses nothing is of mode 0
settings_zero : (s : Settings) (fit : Bool) (B : List ℤ) (rest : ℕ) → class_settings_refusal s fit B rest ≡ 0 → s.mode ≡ 0
unfolding class_settings_refusal
settings_zero s fit B rest = go (eqb (board_refusal s.rows s.columns fit B) 0) refl
  where
    go : (t : Bool) → eqb (board_refusal s.rows s.columns fit B) 0 ≡ t
        → pick t (unless 25 (eqb s.mode 0) rest) (board_refusal s.rows s.columns fit B) ≡ 0 → s.mode ≡ 0
    go true e q = eqb-true _ _ (unless_passed 24 (eqb s.mode 0) rest q).0
    go false e q = absurd (true≢false (sym (eq-eqb _ _ q) ∙ e))

pub setup_zero : (s : Settings) (B : List ℤ) (shown bits : List ℕ) → class_setup_refusal s B shown bits ≡ 0 → s.mode ≡ 0
unfolding class_setup_refusal
setup_zero s B shown bits e = settings_zero s (boards_fit s B shown bits) B (unless 45 (rules_ok s.rules) 0) e

pub lent_zero : (B : List ℤ) (d : Desk) (work : List ℕ) → class_lent_refusal B d work ≡ 0 → d.position.settings.mode ≡ 0
unfolding class_lent_refusal
lent_zero B d work e =
    settings_zero d.position.settings
    (boards_fit d.position.settings B d.shown d.bits && work_fits d.position.settings work) B (lawful_refusal B d) e

-- ---- the lawful position -------------------------------------------------------------------------------------------------------------------

starts_lawful : (s : Settings) (B : List ℤ) (shown bits : List ℕ) → class_setup_refusal s B shown bits ≡ 0 → position_check B (fresh_desk s B) ≡ 0
starts_lawful s B shown bits e =
    setup_keeps s B shown bits (sym (setup_refusal_same s B shown bits (setup_zero s B shown bits e)) ∙ e)

-- what holds of the desk, and of what the event leaves, holds of what the call leaves
pub call_either : (P : Desk → Type 0) (B : List ℤ) (code r c : ℕ) (d : Desk) (work : List ℕ) → P d → P (class_step_on B code r c d).desk
    → P (left_by (class_step_of B code r c d work))
unfolding class_step_of
call_either P B code r c d work h k =
    let o : Play = class_step_on B code r c d in
    pick_both (λ (x : Outcome). P (left_by x)) (eqb (class_lent_refusal B d work) 0) (played d.shown o work) (refused_at B (class_lent_refusal B d work) d work)
    (λ _. pick_both (λ (x : Outcome). P (left_by x)) (leb 20 o.answer) (refused o.answer o.desk work)
    (accepted o.answer (opened_in d.shown o.desk.shown) o.desk work) (λ _. k) (λ _. k))
    (λ _. h)

-- THEOREM: the class's calls
pub class_calls : ClassCalls
class_calls = record {
  setup_same = setup_same;
  step_same = step_same;
  setup_mode = setup_mode;
  step_mode = step_mode;
  setup_keeps = starts_lawful;
  step_keeps = λ B code r c d work e. call_either (λ (x : Desk). position_check B x ≡ 0) B code r c d work e (class_lawful.check B code r c d e);
}
