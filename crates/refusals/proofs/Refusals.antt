-- The chains of refusals, one equation for each way through the code; and what a chain that refuses nothing has shown.
use mathlib.Core.Path.{◌≡◌, refl, ap, ap₂, sym, ◌∙◌}
use mathlib.Core.Bool.{Bool, true, false, ◌&&◌}
use mathlib.Core.List.{List}
use Prim.Native.Nat.{ℕ, ◌+◌, ◌*◌, ◌/◌, ◌%◌, ◌≤◌}
use native.Mathlib.Omega.{arith}
use borrow.Author.Tests.{eq-eqb, ne_eqb, eqb-true, leb-true}
use lib.Dec.{eqb, leb}
use lib.ListN.{length}
use lib.IntN.{ℤ}
use Rattle.rules.specs.declared.Settings.{Settings}
use Rattle.rules.specs.Words.{pick, unless}
use Rattle.rules.specs.Lent.{bit_bytes, work_room}
use Rattle.rules.specs.Board.{board_refusal}
use Rattle.rules.specs.Clicks.{Desk}
use Rattle.rules.specs.Mouse.{rules_ok}
use Rattle.rules.specs.Calls.{cells_in, boards_fit, work_fits, mode_ok, settings_refusal, position_refusal, position_check, lent_refusal, setup_refusal, total_refusal, flow_refusal}
use Rattle.rules.specs.Lawful.{lawful_refusal}
use Rattle.cells.specs.Ground.{Mined}
use Rattle.cells.proofs.Words.{and_left, and_right}
use Rattle.lawful.specs.Parts.{Checkable}
use Rattle.cells.proofs.Face.{values_valued}
use Rattle.keep.proofs.Lawful.{board_accepted, accepted_ground, settings_accepted, check_lawful, lent_lawful}
use Rattle.keep.proofs.Room.{sound_small}

-- ---- lengths ---------------------------------------------------------------------------------------------------------------------------

module _ (s : Settings) (n : ℕ) (e : n ≡ cells_in s) where
  pub boards_are : (B : List ℤ) (shown bits : List ℕ) → (eqb (length B) n && (eqb (length shown) n && eqb (length bits) ((n + 7) / 8))) ≡ boards_fit s B shown bits
  unfolding boards_fit
  boards_are B shown bits = ap (λ (m : ℕ). eqb (length B) m && (eqb (length shown) m && eqb (length bits) (bit_bytes m))) e

  pub work_is : (work : List ℕ) → leb (8 * n + 8) (length work) ≡ work_fits s work
  unfolding work_fits
  work_is work = ap (λ (m : ℕ). leb (work_room m) (length work)) e

pub fits_mines : (s : Settings) (B : List ℤ) (shown bits : List ℕ) → boards_fit s B shown bits ≡ true → length B ≡ s.rows * s.columns
unfolding boards_fit
fits_mines s B shown bits e = eqb-true _ _ (and_left (eqb (length B) (cells_in s)) _ e)

-- ---- 20 to 25 --------------------------------------------------------------------------------------------------------------------------

module _ (s : Settings) (fit : Bool) (B : List ℤ) where
  pub settings_refused : (n : ℕ) → n ≡ board_refusal s.rows s.columns fit B → (n ≡ 0 → ⊥) → n ≡ settings_refusal s fit B 0
  unfolding settings_refusal
  settings_refused n e h = e ∙ simp (ne_eqb _ _ (λ q. h (e ∙ q)))

  -- with 25 for a mode that is not allowed
  pub settings_last : (n : ℕ) (t : Bool) {b : Bool} → n ≡ board_refusal s.rows s.columns fit B → n ≡ 0 → t ≡ mode_ok s.mode → t ≡ b
      → unless 25 b 0 ≡ settings_refusal s fit B 0
  unfolding settings_refusal
  settings_last n t e z d m = simp (eq-eqb _ _ (sym e ∙ z), sym d ∙ m)

  -- the rest of a chain is heard where 20 to 25 are silent, and only there
  pub rest_by : (rest : ℕ) → settings_refusal s fit B rest ≡ pick (eqb (settings_refusal s fit B 0) 0) rest (settings_refusal s fit B 0)
  unfolding settings_refusal
  rest_by rest = go (eqb (board_refusal s.rows s.columns fit B) 0) (mode_ok s.mode) refl
    where
      b : ℕ
      b = board_refusal s.rows s.columns fit B

      go : (t m : Bool) → eqb b 0 ≡ t → pick t (unless 25 m rest) b ≡ pick (eqb (pick t (unless 25 m 0) b) 0) rest (pick t (unless 25 m 0) b)
      go true true e = refl
      go true false e = refl
      go false m e = sym (ap (λ (u : Bool). pick u rest b) e)

  pub rest_heard : (rest : ℕ) → settings_refusal s fit B 0 ≡ 0 → settings_refusal s fit B rest ≡ rest
  rest_heard rest z = rest_by rest ∙ ap (λ (t : Bool). pick t rest (settings_refusal s fit B 0)) (eq-eqb _ _ z)

  pub rest_unheard : (rest : ℕ) → (settings_refusal s fit B 0 ≡ 0 → ⊥) → settings_refusal s fit B rest ≡ settings_refusal s fit B 0
  rest_unheard rest h = rest_by rest ∙ ap (λ (t : Bool). pick t rest (settings_refusal s fit B 0)) (ne_eqb _ _ h)

-- a chain whose first part has found n
module _ (s : Settings) (fit : Bool) (B : List ℤ) (rest n : ℕ) (e : n ≡ settings_refusal s fit B 0) where
  chain_refused : (n ≡ 0 → ⊥) → n ≡ settings_refusal s fit B rest
  chain_refused h = e ∙ sym (rest_unheard s fit B rest (λ q. h (e ∙ q)))

  chain_last : {m : ℕ} → n ≡ 0 → m ≡ rest → m ≡ settings_refusal s fit B rest
  chain_last z l = l ∙ sym (rest_heard s fit B rest (sym e ∙ z))

-- ---- 20 to 264 -------------------------------------------------------------------------------------------------------------------------

module _ (fit : Bool) (B : List ℤ) (d : Desk) (n : ℕ) (e : n ≡ settings_refusal d.position.settings fit B 0) where
  pub position_refused : (n ≡ 0 → ⊥) → n ≡ position_refusal fit B d
  unfolding position_refusal
  position_refused h = chain_refused d.position.settings fit B (lawful_refusal B d) n e h

  -- then that of a position that is not lawful
  pub position_last : {m : ℕ} → n ≡ 0 → m ≡ lawful_refusal B d → m ≡ position_refusal fit B d
  unfolding position_refusal
  position_last z l = chain_last d.position.settings fit B (lawful_refusal B d) n e z l

  -- what 20 to 25 have shown lets the position be checked
  pub checkable : n ≡ 0 → (fit ≡ true → boards_fit d.position.settings B d.shown d.bits ≡ true) → Checkable B d.shown d.bits
  checkable z f =
      let a = settings_accepted d.position.settings fit B 0 (sym e ∙ z) in
      let g = accepted_ground d.shown d.bits a.0 (f a.0.fits) in
      let m = g.mined in
      let k = m.sized.cells in
      record { same = m.long ∙ sym g.board; cells = omega arith; bytes = omega arith; valued = m.valued }

-- ---- the chains of the calls -----------------------------------------------------------------------------------------------------------

pub check_is : (B : List ℤ) (d : Desk) (t : Bool) (n : ℕ) → t ≡ boards_fit d.position.settings B d.shown d.bits → n ≡ position_refusal t B d → n ≡ position_check B d
unfolding position_check
check_is B d t n e h = h ∙ ap (λ (u : Bool). position_refusal u B d) e

pub lent_is : (B : List ℤ) (d : Desk) (work : List ℕ) (t u : Bool) (n : ℕ) → t ≡ boards_fit d.position.settings B d.shown d.bits
    → u ≡ work_fits d.position.settings work → n ≡ position_refusal (t && u) B d → n ≡ lent_refusal B d work
unfolding lent_refusal
lent_is B d work t u n e f h = h ∙ ap₂ (λ (a b : Bool). position_refusal (a && b) B d) e f

pub flow_is : (B : List ℤ) (events : List ℕ) (d : Desk) (work : List ℕ) (t u : Bool) (n : ℕ) → t ≡ boards_fit d.position.settings B d.shown d.bits
    → u ≡ work_fits d.position.settings work → n ≡ position_refusal (t && (u && eqb (length events % 3) 0)) B d → n ≡ flow_refusal B events d work
unfolding flow_refusal
flow_is B events d work t u n e f h = h ∙ ap₂ (λ (a b : Bool). position_refusal (a && (b && eqb (length events % 3) 0)) B d) e f

module _ (s : Settings) (B : List ℤ) (shown bits : List ℕ) (t : Bool) (n : ℕ) (et : t ≡ boards_fit s B shown bits) (e : n ≡ settings_refusal s t B 0) where
  rest : ℕ
  rest = unless 45 (rules_ok s.rules) 0

  pub setup_first : (n ≡ 0 → ⊥) → n ≡ setup_refusal s B shown bits
  unfolding setup_refusal rest
  setup_first h = chain_refused s t B rest n e h ∙ ap (λ (u : Bool). settings_refusal s u B rest) et

  -- then 45
  pub setup_last : {m : ℕ} → n ≡ 0 → m ≡ unless 45 (rules_ok s.rules) 0 → m ≡ setup_refusal s B shown bits
  unfolding setup_refusal rest
  setup_last z l = chain_last s t B rest n e z l ∙ ap (λ (u : Bool). settings_refusal s u B rest) et

-- setup silent: the mine board is of its size, and the boards have their lengths
pub setup_fits : (s : Settings) (B : List ℤ) (shown bits : List ℕ) (n : ℕ) → n ≡ setup_refusal s B shown bits → n ≡ 0
    → Mined B s.rows s.columns × ((length shown ≡ cells_in s) × (length bits ≡ bit_bytes (cells_in s)))
unfolding setup_refusal
setup_fits s B shown bits n e z =
    let a = settings_accepted s (boards_fit s B shown bits) B (unless 45 (rules_ok s.rules) 0) (sym e ∙ z) in
    let g = accepted_ground shown bits a.0 a.0.fits in
    (g.mined, (g.board, g.room))

module _ (R C : ℕ) (B : List ℤ) (work : List ℕ) where
  pub total_is : (m n : ℕ) → m ≡ R * C → n ≡ board_refusal R C (eqb (length B) m && leb (8 * m + 8) (length work)) B → n ≡ total_refusal R C B work
  unfolding total_refusal
  total_is m n e h = h ∙ ap (λ (k : ℕ). board_refusal R C (eqb (length B) k && leb (work_room k) (length work)) B) e

  pub fit_mines : (n : ℕ) → n ≡ R * C → (eqb (length B) n && leb (8 * n + 8) (length work)) ≡ true → length B ≡ R * C
  fit_mines n e h = eqb-true _ _ (and_left _ _ h) ∙ e

  -- 20 to 24 silent, with work
  pub total_mined : total_refusal R C B work ≡ 0 → Mined B R C × (work_room (R * C) ≤ length work)
  unfolding total_refusal
  total_mined e =
      let a = board_accepted R C (eqb (length B) (R * C) && leb (work_room (R * C)) (length work)) B e in (
        record { sized = a.sized; long = eqb-true _ _ (and_left _ _ a.fits); valued = values_valued B a.values },
        leb-true _ _ (and_right (eqb (length B) (R * C)) _ a.fits),
      )

module _ (B : List ℤ) (d : Desk) (work : List ℕ) (n : ℕ) (e : n ≡ lent_refusal B d work) (z : n ≡ 0) where
  -- 20 to 264 silent, with work
  room : work_room (cells_in d.position.settings) ≤ length work
  unfolding lent_refusal position_refusal work_fits
  room =
      leb-true _ _
      (and_right (boards_fit d.position.settings B d.shown d.bits) _
      (settings_accepted d.position.settings (boards_fit d.position.settings B d.shown d.bits && leb (work_room (cells_in d.position.settings)) (length work)) B (lawful_refusal B d) (sym e ∙ z)).0.fits)

  pub lent_mined : Mined B d.position.settings.rows d.position.settings.columns × (work_room (cells_in d.position.settings) ≤ length work)
  lent_mined = ((lent_lawful B d work (sym e ∙ z)).kept.sound.ground.mined, room)

-- a lawful position's solved counts are few
pub check_solved : (B : List ℤ) (d : Desk) (n : ℕ) → n ≡ position_check B d → n ≡ 0 → d.position.secrets.solved_left + d.position.secrets.solved_chord ≤ 2048
check_solved B d n e z = (sound_small (check_lawful B d (sym e ∙ z)).kept.sound).solved
