-- Each call's number says enough of the board for the search: where it is 22 or 23, so is that of the board check.
use mathlib.Core.Path.{◌≡◌, sym, ◌∙◌}
use mathlib.Core.Bool.{Bool, true, false, ◌&&◌}
use mathlib.Core.List.{List}
use Prim.Native.Nat.{ℕ, ◌*◌, ◌%◌, ◌<◌}
use native.Mathlib.Omega.{arith}
use borrow.Author.Tests.{eqb-true}
use lib.Dec.{eqb, leb}
use lib.ListN.{length}
use lib.IntN.{ℤ}
use Rattle.rules.specs.declared.Settings.{Settings}
use Rattle.rules.specs.Words.{pick, unless}
use Rattle.rules.specs.Lent.{work_room}
use Rattle.rules.specs.Board.{board_refusal, board_check}
use Rattle.rules.specs.Clicks.{Desk}
use Rattle.rules.specs.Mouse.{rules_ok}
use Rattle.rules.specs.Lawful.{shown_lawful, bits_lawful, counts_lawful, states_lawful, lawful_refusal}
use Rattle.rules.specs.Calls.{boards_fit, work_fits, mode_ok, settings_refusal, position_refusal, position_check, lent_refusal, setup_refusal, total_refusal, flow_refusal}
use Rattle.cells.proofs.Words.{and_left}
use Rattle.boards.specs.Faults.{Placeable}
use Rattle.boards.proofs.Faults.{heard, placeable}
use Rattle.refusals.proofs.Refusals.{fits_mines}

-- a number below 25 that the rest of a chain does not give is the board's
settings_heard : (s : Settings) (fit : Bool) (B : List ℤ) (rest k : ℕ) → k < 25 → (rest ≡ k → ⊥) → settings_refusal s fit B rest ≡ k → board_refusal s.rows s.columns fit B ≡ k
unfolding settings_refusal
settings_heard s fit B rest k h n e = go (eqb (board_refusal s.rows s.columns fit B) 0) e
  where
    go : (t : Bool) → pick t (unless 25 (mode_ok s.mode) rest) (board_refusal s.rows s.columns fit B) ≡ k → board_refusal s.rows s.columns fit B ≡ k
    go true u = absurd (n (heard 25 (mode_ok s.mode) rest k u (λ (q : 25 ≡ k). omega arith)).1)
    go false u = u

-- a position that is not lawful has a number above 260
lawful_unheard : (B : List ℤ) (d : Desk) (k : ℕ) → 0 < k → k < 261 → lawful_refusal B d ≡ k → ⊥
unfolding lawful_refusal
lawful_unheard B d k z h e =
    let a = heard 261 (shown_lawful B d) _ k e (λ (q : 261 ≡ k). omega arith) in
    let b = heard 262 (bits_lawful B d) _ k a.1 (λ (q : 262 ≡ k). omega arith) in
    let c = heard 263 (counts_lawful B d) _ k b.1 (λ (q : 263 ≡ k). omega arith) in
    let s = (heard 264 (states_lawful B d) 0 k c.1 (λ (q : 264 ≡ k). omega arith)).1 in
    omega arith

-- ---- the calls -------------------------------------------------------------------------------------------------------------------------

pub board_placeable : (R C : ℕ) (fit : Bool) (B : List ℤ) (n : ℕ) → (fit ≡ true → length B ≡ R * C) → n ≡ board_refusal R C fit B → Placeable R C B n
board_placeable R C fit B n long e = placeable R C fit B long n (λ q. sym e ∙ q) (λ q. sym e ∙ q)

pub check_board_placeable : (R C : ℕ) (B : List ℤ) (n : ℕ) → n ≡ board_check R C B → Placeable R C B n
unfolding board_check
check_board_placeable R C B n e = board_placeable R C (eqb (length B) (R * C)) B n (λ f. eqb-true _ _ f) e

pub total_placeable : (R C : ℕ) (B : List ℤ) (work : List ℕ) (n : ℕ) → n ≡ total_refusal R C B work → Placeable R C B n
unfolding total_refusal
total_placeable R C B work n e = board_placeable R C (eqb (length B) (R * C) && leb (work_room (R * C)) (length work)) B n (λ f. eqb-true _ _ (and_left _ _ f)) e

settings_placeable : (s : Settings) (fit : Bool) (B : List ℤ) (rest n : ℕ) → (rest ≡ 22 → ⊥) → (rest ≡ 23 → ⊥) → (fit ≡ true → length B ≡ s.rows * s.columns)
    → n ≡ settings_refusal s fit B rest → Placeable s.rows s.columns B n
settings_placeable s fit B rest n h k long e =
    placeable s.rows s.columns fit B long n
    (λ q. settings_heard s fit B rest 22 (omega arith) h (sym e ∙ q))
    (λ q. settings_heard s fit B rest 23 (omega arith) k (sym e ∙ q))

rules_unheard : (t : Bool) (k : ℕ) → 0 < k → k < 45 → unless 45 t 0 ≡ k → ⊥
rules_unheard true k z h e = omega arith
rules_unheard false k z h e = omega arith

pub setup_placeable : (s : Settings) (B : List ℤ) (shown bits : List ℕ) (n : ℕ) → n ≡ setup_refusal s B shown bits → Placeable s.rows s.columns B n
unfolding setup_refusal
setup_placeable s B shown bits n e =
    settings_placeable s (boards_fit s B shown bits) B (unless 45 (rules_ok s.rules) 0) n
    (rules_unheard (rules_ok s.rules) 22 (omega arith) (omega arith)) (rules_unheard (rules_ok s.rules) 23 (omega arith) (omega arith))
    (fits_mines s B shown bits) e

module _ (B : List ℤ) (d : Desk) (n : ℕ) where
  position_placeable : (fit : Bool) → (fit ≡ true → boards_fit d.position.settings B d.shown d.bits ≡ true) → n ≡ position_refusal fit B d
      → Placeable d.position.settings.rows d.position.settings.columns B n
  unfolding position_refusal
  position_placeable fit f e =
      settings_placeable d.position.settings fit B (lawful_refusal B d) n
      (lawful_unheard B d 22 (omega arith) (omega arith)) (lawful_unheard B d 23 (omega arith) (omega arith))
      (λ t. fits_mines d.position.settings B d.shown d.bits (f t)) e

  pub check_placeable : n ≡ position_check B d → Placeable d.position.settings.rows d.position.settings.columns B n
  unfolding position_check
  check_placeable e = position_placeable (boards_fit d.position.settings B d.shown d.bits) (λ f. f) e

  pub lent_placeable : (work : List ℕ) → n ≡ lent_refusal B d work → Placeable d.position.settings.rows d.position.settings.columns B n
  unfolding lent_refusal
  lent_placeable work e =
      position_placeable (boards_fit d.position.settings B d.shown d.bits && work_fits d.position.settings work) (and_left _ _) e

  pub flow_placeable : (events work : List ℕ) → n ≡ flow_refusal B events d work → Placeable d.position.settings.rows d.position.settings.columns B n
  unfolding flow_refusal
  flow_placeable events work e =
      position_placeable (boards_fit d.position.settings B d.shown d.bits && (work_fits d.position.settings work && eqb (length events % 3) 0))
      (and_left _ _) e
