-- One outcome for every input: any two outcomes that a call's promise allows are equal. A refusal gives all back, with its number and its place. And 25
-- and 34 stand in their places of the order. Assumes nothing.
use Rattle.std.specs.Prelude.{Option, Some, None}
use mathlib.Core.Path.{◌≡◌, refl, ap, ◌∙◌, subst⁻¹}
use mathlib.Core.Bool.{Bool, true, false, not, ◌&&◌}
use mathlib.Core.List.{List, [], ◌∷◌, ◌++◌}
use Prim.Native.Nat.{ℕ, ◌≤◌}
use native.Mathlib.Omega.{arith}
use borrow.Author.Tests.{ne_eqb}
use lib.Dec.{eqb, ltb}
use lib.IntN.{ℤ}
use Rattle.rules.specs.declared.Position.{Position}
use Rattle.rules.specs.declared.Settings.{Settings}
use Rattle.rules.specs.declared.Answer.{Answer}
use Rattle.rules.specs.declared.Book.{Book}
use Rattle.rules.specs.declared.Pointer.{Pointer}
use Rattle.rules.specs.declared.GameState.{GameState}
use Rattle.rules.specs.declared.GameState.TheVariants.{Ready, Playing, Win, Loss, PreFlaging}
use Rattle.rules.specs.declared.Event.{Event}
use Rattle.rules.specs.Words.{pick, unless}
use Rattle.rules.specs.States.{fresh_of}
use Rattle.rules.specs.Grid.{size_ok}
use Rattle.rules.specs.Board.{values_ok, numbers_ok, some_safe, board_refusal}
use Rattle.rules.specs.Clicks.{Desk, Play, desk, done}
use Rattle.rules.specs.Mouse.{rules_ok}
use Rattle.rules.specs.Step.{event_refusal, plain_of, pointer_of, play_at, step_on}
use Rattle.rules.specs.Lawful.{lawful_refusal}
use Rattle.rules.specs.Calls.{Outcome, SetUp, outcome, refuses, set_up, setup_by, refused_at, boards_fit, work_fits}
use Rattle.cells.proofs.Words.{one}
use Rattle.refusals.specs.Rows.{Row, row, first, board_rows, lawful_rows, pre_flag_ok, code_ok}
use Rattle.board.proofs.Outcomes.{called_whole, event_back, event_far}
use Rattle.rules.specs.Noflag.{
  forbidden,
  class_refusal_at,
  class_step_at,
  class_step_by,
  class_step_on,
  class_settings_refusal,
  class_setup_refusal,
  class_setup_of,
  class_lent_refusal,
  class_step_of,
  class_book_of,
  ClassSetupIs,
  ClassStepIs,
}
use Rattle.noflag.specs.Class.{forbids}
use Rattle.noflag.proofs.Same.{class_same, class_forbids}

-- ---- one outcome -------------------------------------------------------------------------------------------------------------------------

pub setup_one : (s : Settings) (B : List ℤ) (shown bits : List ℕ) (r q : Answer) (shown' shown'' bits' bits'' : List ℕ)
    → ClassSetupIs s B shown bits r shown' bits' → ClassSetupIs s B shown bits q shown'' bits'' → (r ≡ q) × (shown' ≡ shown'') × (bits' ≡ bits'')
setup_one s B shown bits r q shown' shown'' bits' bits'' h k =
    let e : set_up r shown' bits' ≡ set_up q shown'' bits'' = one h k in
    (ap (λ (o : SetUp). o.answer) e, ap (λ (o : SetUp). o.shown) e, ap (λ (o : SetUp). o.bits) e)

pub step_one : (p : Position) (code row column : ℕ) (B : List ℤ) (shown bits work : List ℕ) (r q : Answer) (shown' shown'' bits' bits'' work' work'' : List ℕ)
    → ClassStepIs p code row column B shown bits work r shown' bits' work' → ClassStepIs p code row column B shown bits work q shown'' bits'' work''
    → (r ≡ q) × (shown' ≡ shown'') × (bits' ≡ bits'') × (work' ≡ work'')
step_one p code row column B shown bits work r q shown' shown'' bits' bits'' work' work'' h k =
    let e : outcome r shown' bits' work' ≡ outcome q shown'' bits'' work'' = one h k in
    (ap (λ (o : Outcome). o.answer) e, ap (λ (o : Outcome). o.shown) e, ap (λ (o : Outcome). o.bits) e, ap (λ (o : Outcome). o.work) e)

pub read_book_one : (s : List ℕ) (b c : Book) → b ≡ class_book_of s → c ≡ class_book_of s → b ≡ c
read_book_one s b c h k = one h k

-- ---- a refusal gives all back ------------------------------------------------------------------------------------------------------------

pub setup_refused : (s : Settings) (B : List ℤ) (shown bits : List ℕ) → (class_setup_refusal s B shown bits ≡ 0 → ⊥)
    → class_setup_of s B shown bits ≡ set_up (refuses B (fresh_of s 0) (class_setup_refusal s B shown bits)) shown bits
unfolding class_setup_of setup_by
setup_refused s B shown bits h = simp (ne_eqb _ _ h)

-- by 20 to 264
pub step_refused : (B : List ℤ) (code r c : ℕ) (d : Desk) (work : List ℕ) → (class_lent_refusal B d work ≡ 0 → ⊥)
    → class_step_of B code r c d work ≡ refused_at B (class_lent_refusal B d work) d work
unfolding class_step_of
step_refused B code r c d work h = simp (ne_eqb _ _ h)

forbids_past : (few : Bool) (w : Option Pointer) → 30 ≤ forbids few w
forbids_past few None = omega arith
forbids_past true (Some x) = omega arith
forbids_past false (Some x) = omega arith

module _ (B : List ℤ) (code r c : ℕ) (d : Desk) where
  -- what holds of a play of the full game, and of what a forbidden event is answered, holds of the class's play
  by_code : (P : Play → Type 0) → (forbidden code ≡ false → P (step_on B code r c d))
      → P (done (forbids (ltb d.position.events 65535) (pointer_of d.position.settings r c)) d) → P (class_step_on B code r c d)
  by_code P f g = go (forbidden code) refl
    where
      go : (b : Bool) → forbidden code ≡ b → P (class_step_on B code r c d)
      go true e = subst⁻¹ P (class_forbids B code r c d e) g
      go false e = subst⁻¹ P (class_same B code r c d e) (f e)

  -- a refused event leaves the desk, and its number is 30 to 34
  class_back : 20 ≤ (class_step_on B code r c d).answer → (class_step_on B code r c d).desk ≡ d
  class_back = by_code (λ (o : Play). 20 ≤ o.answer → o.desk ≡ d) (λ _. event_back B code r c d) (λ _. refl)

  class_past : 20 ≤ (class_step_on B code r c d).answer → 30 ≤ (class_step_on B code r c d).answer
  class_past =
      by_code (λ (o : Play). 20 ≤ o.answer → 30 ≤ o.answer) (λ _. event_far B code r c d)
      (λ _. forbids_past (ltb d.position.events 65535) (pointer_of d.position.settings r c))

  class_whole : (work : List ℕ) → 20 ≤ (class_step_of B code r c d work).answer.number
      → class_step_of B code r c d work ≡ refused_at B (class_step_of B code r c d work).answer.number d work
  unfolding class_step_of
  class_whole work = called_whole B (class_lent_refusal B d work) d work (class_step_on B code r c d) class_back class_past

-- a step answers 0 to 4, or it is refused: 20 to 264, 30 to 34
pub step_gives_back : (p : Position) (code row column : ℕ) (B : List ℤ) (shown bits work : List ℕ) (r : Answer) (shown' bits' work' : List ℕ)
    → ClassStepIs p code row column B shown bits work r shown' bits' work' → 20 ≤ r.number
    → outcome r shown' bits' work' ≡ refused_at B r.number (desk p shown bits) work
step_gives_back p code row column B shown bits work r shown' bits' work' h =
    subst⁻¹ (λ (o : Outcome). 20 ≤ o.answer.number → o ≡ refused_at B o.answer.number (desk p shown bits) work) h
    (class_whole B code row column (desk p shown bits) work)

-- ---- 25 and 34 in their places -------------------------------------------------------------------------------------------------------------

-- 20 to 24, then 25 unless the mode is 0, then the rows of the call
abbrev pub class_rows : Settings → Bool → List ℤ → List Row → List Row
class_rows s fit B ts = board_rows s.rows s.columns fit B ++ (row 25 (eqb s.mode 0) ∷ ts)

chain_rows : (a b c d e m : Bool) (rest : ℕ)
    → pick (eqb (unless 20 a (unless 21 b (unless 22 c (unless 23 d (unless 24 e 0))))) 0) (unless 25 m rest) (unless 20 a (unless 21 b (unless 22 c (unless 23 d (unless 24 e 0)))))
    ≡ unless 20 a (unless 21 b (unless 22 c (unless 23 d (unless 24 e (unless 25 m rest)))))
chain_rows false b c d e m rest = refl
chain_rows true false c d e m rest = refl
chain_rows true true false d e m rest = refl
chain_rows true true true false e m rest = refl
chain_rows true true true true false m rest = refl
chain_rows true true true true true m rest = refl

settings_rows_lem : (s : Settings) (fit : Bool) (B : List ℤ) (ts : List Row) → class_settings_refusal s fit B (first ts) ≡ first (class_rows s fit B ts)
unfolding class_settings_refusal board_refusal first
settings_rows_lem s fit B ts =
    chain_rows (size_ok s.rows s.columns) fit (values_ok B) (numbers_ok B s.rows s.columns) (some_safe B) (eqb s.mode 0) (first ts)

-- setup: .., then 45
pub setup_rows_lem : (s : Settings) (B : List ℤ) (shown bits : List ℕ)
    → class_setup_refusal s B shown bits ≡ first (class_rows s (boards_fit s B shown bits) B (row 45 (rules_ok s.rules) ∷ []))
unfolding class_setup_refusal first
setup_rows_lem s B shown bits = settings_rows_lem s (boards_fit s B shown bits) B (row 45 (rules_ok s.rules) ∷ [])

-- step: .., then 261 to 264
pub lent_rows : (B : List ℤ) (d : Desk) (work : List ℕ)
    → class_lent_refusal B d work
    ≡ first (class_rows d.position.settings (boards_fit d.position.settings B d.shown d.bits && work_fits d.position.settings work) B (lawful_rows B d))
unfolding class_lent_refusal lawful_refusal first
lent_rows B d work =
    settings_rows_lem d.position.settings (boards_fit d.position.settings B d.shown d.bits && work_fits d.position.settings work) B (lawful_rows B d)

-- then 30, and at a cell or off the board 31, 34, 32, 33
abbrev pub class_event_rows : ℕ → Pointer → Desk → List Row
class_event_rows code x d =
    row 31 (ltb d.position.events 65535) ∷ row 34 (not (forbidden code)) ∷ row 32 (pre_flag_ok d.position.game (plain_of code x d) d)
    ∷ row 33 (code_ok d.position.game (plain_of code x d) d) ∷ []

event_rows_lem : (code : ℕ) (x : Pointer) (d : Desk) → class_refusal_at code x d ≡ first (class_event_rows code x d)
unfolding class_refusal_at first event_refusal
event_rows_lem code x d =
    ap (λ (n : ℕ). unless 31 (ltb d.position.events 65535) (unless 34 (not (forbidden code)) n)) (by_game_lem d.position.game (plain_of code x d))
  where
    by_game_lem : (g : GameState) (e : Event) → event_refusal g e d ≡ unless 32 (pre_flag_ok g e d) (unless 33 (code_ok g e d) 0)
    by_game_lem Ready e = refl
    by_game_lem Playing e = refl
    by_game_lem Win e = refl
    by_game_lem Loss e = refl
    by_game_lem PreFlaging e = refl

module _ (B : List ℤ) (code r c : ℕ) (d : Desk) where
  pub step_off : pointer_of d.position.settings r c ≡ None → class_step_on B code r c d ≡ done 30 d
  unfolding class_step_on class_step_by
  step_off e = ap (λ (w : Option Pointer). class_step_by B code w d) e

  pub step_at_lem : (x : Pointer) → pointer_of d.position.settings r c ≡ Some x
      → class_step_on B code r c d ≡ pick (eqb (first (class_event_rows code x d)) 0) (play_at B code x d) (done (first (class_event_rows code x d)) d)
  unfolding class_step_on class_step_by class_step_at
  step_at_lem x e =
      ap (λ (w : Option Pointer). class_step_by B code w d) e ∙ ap (λ (n : ℕ). pick (eqb n 0) (play_at B code x d) (done n d)) (event_rows_lem code x d)
