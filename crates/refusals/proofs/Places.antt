-- No number but in its place of the order: each chain of refusals is its rows of the table, and a number is given exactly when its row is the first to apply.
use Rattle.std.specs.Prelude.{Option, Some, None}
use mathlib.Core.Path.{◌≡◌, refl, ap, ap₂, sym, ◌∙◌}
use mathlib.Core.Bool.{Bool, true, false, ◌&&◌}
use mathlib.Core.List.{List, [], ◌∷◌, ◌++◌}
use mathlib.Core.Logic.{◌⊎◌, inl, inr}
use Prim.Native.Nat.{ℕ, ◌*◌, ◌%◌}
use borrow.Author.Tests.{eq-eqb, ne_eqb}
use lib.Dec.{eqb, leb, ltb}
use lib.ListN.{length}
use lib.IntN.{ℤ}
use Rattle.rules.specs.declared.Settings.{Settings}
use Rattle.rules.specs.declared.Pointer.{Pointer}
use Rattle.rules.specs.declared.Event.{Event}
use Rattle.rules.specs.declared.GameState.{GameState}
use Rattle.rules.specs.declared.GameState.TheVariants.{Ready, Playing, Win, Loss, PreFlaging}
use Rattle.rules.specs.Words.{pick, unless}
use Rattle.rules.specs.States.{mouse_number, with_middle}
use Rattle.rules.specs.Board.{board_refusal, board_check, numbering_refusal}
use Rattle.rules.specs.Lent.{work_room}
use Rattle.rules.specs.Clicks.{Desk, done}
use Rattle.rules.specs.Mouse.{rules_ok, resolved, flipped}
use Rattle.rules.specs.Step.{event_refusal, refusal_at, plain_of, play_at, step_at, step_by_of, step_on, pointer_of}
use Rattle.rules.specs.Lawful.{lawful_refusal}
use Rattle.rules.specs.Calls.{answers, boards_fit, work_fits, mode_ok, settings_refusal, position_refusal, position_check, lent_refusal, flow_refusal, setup_refusal, total_refusal, resolve_by, resolve_of}
use Rattle.refusals.specs.Rows.{Row, row, first, Given, board_rows, settings_rows, lawful_rows, position_rows, check_rows, lent_rows_of, flow_rows, setup_rows, total_rows, numbering_rows, resolve_rows, pre_flag_ok, code_ok, event_rows}
use Rattle.refusals.proofs.Refusals.{rest_by}

-- ---- any table -------------------------------------------------------------------------------------------------------------------------

-- the first row that applies gives its number ..
pub first_given : (ts : List Row) → Given ts (first ts)
unfolding first
first_given [] = refl
first_given (t ∷ ts) = go t.test refl (first_given ts)
  where
    go : (b : Bool) → t.test ≡ b → Given ts (first ts) → ((t.test ≡ false) × (unless t.number b (first ts) ≡ t.number)) ⊎ ((t.test ≡ true) × Given ts (unless t.number b (first ts)))
    go true e rest = inr (e, rest)
    go false e rest = inl (e, refl)

-- .. and no other number is given
pub given_first : (ts : List Row) (n : ℕ) → Given ts n → n ≡ first ts
unfolding first
given_first [] n g = g
given_first (t ∷ ts) n (inl (f, e)) = e ∙ sym (ap (λ (b : Bool). unless t.number b (first ts)) f)
given_first (t ∷ ts) n (inr (p, g)) = given_first ts n g ∙ sym (ap (λ (b : Bool). unless t.number b (first ts)) p)

-- ---- each chain is its rows ------------------------------------------------------------------------------------------------------------

pub board_rows_lem : (R C : ℕ) (fit : Bool) (B : List ℤ) → board_refusal R C fit B ≡ first (board_rows R C fit B)
unfolding board_refusal first
board_rows_lem R C fit B = refl

pub board_check_rows : (R C : ℕ) (B : List ℤ) → board_check R C B ≡ first (board_rows R C (eqb (length B) (R * C)) B)
unfolding board_check
board_check_rows R C B = board_rows_lem R C (eqb (length B) (R * C)) B

pub numbering_rows_lem : (R C : ℕ) (ms : List ℕ) (B : List ℤ) → numbering_refusal R C ms B ≡ first (numbering_rows R C ms B)
unfolding numbering_refusal first
numbering_rows_lem R C ms B = refl

pub total_rows_lem : (R C : ℕ) (B : List ℤ) (work : List ℕ) → total_refusal R C B work ≡ first (total_rows R C B work)
unfolding total_refusal
total_rows_lem R C B work = board_rows_lem R C (eqb (length B) (R * C) && leb (work_room (R * C)) (length work)) B

-- no row has the number 0
abbrev Refusing : List Row → Type 0
Refusing [] = Unit {0}
Refusing (t ∷ ts) = (eqb t.number 0 ≡ false) × Refusing ts

-- rows after others are heard where those are silent
first_append : (ts us : List Row) → Refusing ts → first (ts ++ us) ≡ pick (eqb (first ts) 0) (first us) (first ts)
unfolding first
first_append [] us h = refl
first_append (t ∷ ts) us (z, h) = go t.test (first_append ts us h)
  where
    go : (b : Bool) → first (ts ++ us) ≡ pick (eqb (first ts) 0) (first us) (first ts)
        → unless t.number b (first (ts ++ us)) ≡ pick (eqb (unless t.number b (first ts)) 0) (first us) (unless t.number b (first ts))
    go true rec = rec
    go false rec = sym (ap (λ (u : Bool). pick u (first us) t.number) z)

module _ (s : Settings) (fit : Bool) (B : List ℤ) where
  pub settings_rows_lem : settings_refusal s fit B 0 ≡ first (settings_rows s fit B)
  unfolding settings_refusal board_refusal first
  settings_rows_lem = sym (first_append (board_rows s.rows s.columns fit B) (row 25 (mode_ok s.mode) ∷ []) (refl, (refl, (refl, (refl, (refl, tt))))))

  -- and whatever follows 20 to 25
  rest_rows : (rest : ℕ) (ts : List Row) → rest ≡ first ts → settings_refusal s fit B rest ≡ first (settings_rows s fit B ++ ts)
  rest_rows rest ts e =
      rest_by s fit B rest
      ∙ ap₂ (λ (n m : ℕ). pick (eqb n 0) m n) settings_rows_lem e
      ∙ sym (first_append (settings_rows s fit B) ts (refl, (refl, (refl, (refl, (refl, (refl, tt)))))))

pub lawful_rows_lem : (B : List ℤ) (d : Desk) → lawful_refusal B d ≡ first (lawful_rows B d)
unfolding lawful_refusal first
lawful_rows_lem B d = refl

module _ (fit : Bool) (B : List ℤ) (d : Desk) where
  pub position_rows_lem : position_refusal fit B d ≡ first (position_rows fit B d)
  unfolding position_refusal
  position_rows_lem = rest_rows d.position.settings fit B (lawful_refusal B d) (lawful_rows B d) (lawful_rows_lem B d)

pub check_rows_lem : (B : List ℤ) (d : Desk) → position_check B d ≡ first (check_rows B d)
unfolding position_check
check_rows_lem B d = position_rows_lem (boards_fit d.position.settings B d.shown d.bits) B d

pub lent_rows : (B : List ℤ) (d : Desk) (work : List ℕ) → lent_refusal B d work ≡ first (lent_rows_of B d work)
unfolding lent_refusal
lent_rows B d work = position_rows_lem (boards_fit d.position.settings B d.shown d.bits && work_fits d.position.settings work) B d

pub flow_rows_lem : (B : List ℤ) (events : List ℕ) (d : Desk) (work : List ℕ) → flow_refusal B events d work ≡ first (flow_rows B events d work)
unfolding flow_refusal
flow_rows_lem B events d work =
    position_rows_lem (boards_fit d.position.settings B d.shown d.bits && (work_fits d.position.settings work && eqb (length events % 3) 0)) B d

pub setup_rows_lem : (s : Settings) (B : List ℤ) (shown bits : List ℕ) → setup_refusal s B shown bits ≡ first (setup_rows s B shown bits)
unfolding setup_refusal first
setup_rows_lem s B shown bits = rest_rows s (boards_fit s B shown bits) B (unless 45 (rules_ok s.rules) 0) (row 45 (rules_ok s.rules) ∷ []) refl

-- ---- 30 to 33, once 20 to 264 are silent ------------------------------------------------------------------------------------------------

module _ (code : ℕ) (x : Pointer) (d : Desk) where
  by_game_lem : (g : GameState) (e : Event) → event_refusal g e d ≡ first (row 32 (pre_flag_ok g e d) ∷ row 33 (code_ok g e d) ∷ [])
  unfolding event_refusal first
  by_game_lem Ready e = refl
  by_game_lem Playing e = refl
  by_game_lem Win e = refl
  by_game_lem Loss e = refl
  by_game_lem PreFlaging e = refl

  pub event_rows_lem : refusal_at code x d ≡ first (event_rows code x d)
  unfolding refusal_at first
  event_rows_lem = ap (unless 31 (ltb d.position.events 65535)) (by_game_lem d.position.game (plain_of code x d))

module _ (B : List ℤ) (code r c : ℕ) (d : Desk) where
  -- 30 comes before 31 to 33
  pub step_off : pointer_of d.position.settings r c ≡ None → step_on B code r c d ≡ done 30 d
  unfolding step_on step_by_of
  step_off e = ap (λ (x : Option Pointer). step_by_of B code x d) e

  -- at a cell or off the board: the first row that applies, with the desk as it was, or the event is played
  pub step_at_lem : (x : Pointer) → pointer_of d.position.settings r c ≡ Some x
      → step_on B code r c d ≡ pick (eqb (first (event_rows code x d)) 0) (play_at B code x d) (done (first (event_rows code x d)) d)
  unfolding step_on step_by_of step_at
  step_at_lem x e =
      ap (λ (y : Option Pointer). step_by_of B code y d) e ∙ ap (λ (n : ℕ). pick (eqb n 0) (play_at B code x d) (done n d)) (event_rows_lem code x d)

-- ---- resolve: 20 to 264, then 30, then 31 ----------------------------------------------------------------------------------------------

module _ (B : List ℤ) (code r c : ℕ) (d : Desk) where
  pub resolve_unfit : (position_check B d ≡ 0 → ⊥) → (resolve_of B code r c d).number ≡ first (check_rows B d)
  unfolding resolve_of
  resolve_unfit h = simp (ne_eqb _ _ h) (check_rows_lem B d)

  module _ (e : position_check B d ≡ 0) where
    pub resolve_off : pointer_of d.position.settings r c ≡ None → resolve_of B code r c d ≡ answers 30 d.position 0
    unfolding resolve_of resolve_by
    resolve_off w = simp (eq-eqb _ _ e, w)

    pub resolve_at : (x : Pointer) → pointer_of d.position.settings r c ≡ Some x → (resolve_of B code r c d).number ≡ first (resolve_rows d)
    unfolding resolve_of resolve_by first
    resolve_at x w = simp (eq-eqb _ _ e, w) (go (ltb d.position.events 65535))
      where
        go : (b : Bool)
            → (pick b (answers 0 (with_middle d.position (flipped code d.position.middle))
            (resolved d.position.settings.rules code (mouse_number d.position.mouse) d.position.middle)) (answers 31 d.position 0)).number ≡ unless 31 b 0
        go true = refl
        go false = refl
