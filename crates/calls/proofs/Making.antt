-- What the calls make: left to solve and the total counted on cleared work, a fresh desk, and one equation for each answer.
use mathlib.Core.Path.{◌≡◌, ap, ap₂, sym, ◌∙◌}
use mathlib.Core.List.{List, [], ◌++◌}
use Prim.Native.Nat.{ℕ, ◌+◌, ◌*◌, ◌<◌, ◌≤◌}
use native.Mathlib.Omega.{arith}
use borrow.Author.Tests.{eq-eqb, ne_eqb, le-leb, lt-leb}
use lib.ListN.{drop, replicate}
use lib.IntN.{ℤ}
use Rattle.rules.specs.declared.Settings.{Settings}
use Rattle.rules.specs.declared.Position.{Position}
use Rattle.rules.specs.declared.Answer.{Answer}
use Rattle.rules.specs.declared.Value.{Value}
use Rattle.rules.specs.declared.Place.TheVariants.{Nowhere}
use Rattle.rules.specs.declared.GameState.TheVariants.{Loss}
use Rattle.rules.specs.States.{fresh_of, with_game}
use Rattle.rules.specs.Lent.{work_room, work_after}
use Rattle.rules.specs.Judging.{left_to_solve}
use Rattle.rules.specs.Clicks.{Desk, desk}
use Rattle.rules.specs.Calls.{SetUp, answers, refuses, checks, fresh_desk, set_up, setup_by, setup_refusal, setup_of, reset_of, total_refusal, total_of, position_check, lent_refusal, game_state_of, bbbv_solved_of, left_to_solve_of}
use Rattle.cells.specs.Ground.{Sized, Zeros}
use Rattle.cells.proofs.Filling.{cleared_zeros}
use Rattle.cells.specs.Promises.{Leaves}
use Rattle.boards.specs.Faults.{Placeable}
use Rattle.judging.proofs.Judging.{left_cells}
use Rattle.judging.proofs.Solving.{left_none}
use Rattle.rules.specs.Promises.{totals, asks}
use Rattle.calls.specs.Parts.{LeftMade}

-- ---- the count on cleared work -------------------------------------------------------------------------------------------------------

-- rows and columns as the code widens them
pub room_wide : {R C r c : ℕ} (l : ℕ) → r ≡ R → c ≡ C → work_room (R * C) ≤ l → work_room (r * c) ≤ l
room_wide l er ec h = rw (er, ec) h

module _ (B : List ℤ) {R C r c : ℕ} (er : r ≡ R) (ec : c ≡ C) (n : ℕ) (en : n ≡ R * C) (w w₁ : List ℕ) (e : w₁ ≡ replicate (8 * n + 8) 0 ++ drop (8 * n + 8) w) where
  room_is : 8 * n + 8 ≡ work_room (r * c)
  room_is = rw (er, ec) (ap work_room en)

  pub zeros_wide : Zeros (work_room (r * c)) w₁
  zeros_wide = rw (sym room_is, e) (cleared_zeros (8 * n + 8) w)

  module _ (shown : List ℕ) (t : ℕ) (w₂ : List ℕ) (l : Leaves t (left_to_solve B r c shown) w₁ w₂) where
    left_wide : t ≡ left_to_solve B R C shown
    left_wide = l.outcome ∙ ap₂ (λ (x y : ℕ). left_to_solve B x y shown) er ec

    pub left_small : Sized R C → t ≤ 2048
    left_small s = let a = left_cells B R C shown in let b = left_wide in let k = s.cells in omega arith

    pub left_made : LeftMade B R C shown w t w₂
    unfolding work_after
    left_made = record { left = left_wide; cleared = l.same ∙ e ∙ ap (λ (k : ℕ). replicate (work_room k) 0 ++ drop (work_room k) w) en }

-- ---- the total -------------------------------------------------------------------------------------------------------------------------

module _ (R C : ℕ) (B : List ℤ) (work : List ℕ) (n : ℕ) (e : n ≡ total_refusal R C B work) where
  pub total_refused : (r : Value) → (n ≡ 0 → ⊥) → r ≡ checks R C B n → totals r work ≡ total_of R C B work
  unfolding total_of
  total_refused r h a = ap (λ (x : Value). totals x work) (a ∙ ap (checks R C B) e) ∙ simp (ne_eqb _ _ (λ q. h (e ∙ q)))

  pub total_answered : (t : ℕ) (work' : List ℕ) → n ≡ 0 → LeftMade B R C [] work t work' → totals (record { number = 0; place = Nowhere; value = t }) work' ≡ total_of R C B work
  unfolding total_of
  total_answered t work' z m =
      ap₂ (λ (v : ℕ) (x : List ℕ). totals (record { number = 0; place = Nowhere; value = v }) x) (m.left ∙ left_none B R C) m.cleared ∙ simp (eq-eqb _ _ (sym e ∙ z))

-- ---- setup -----------------------------------------------------------------------------------------------------------------------------

module _ (n : ℕ) (B : List ℤ) (otherwise : Position) (s : Settings) (shown bits : List ℕ) where
  pub set_refused : (r : Answer) → r ≡ refuses B otherwise n → (n ≡ 0 → ⊥) → set_up r shown bits ≡ setup_by n B otherwise s shown bits
  unfolding setup_by
  set_refused r e h = ap (λ (a : Answer). set_up a shown bits) e ∙ simp (ne_eqb n 0 h)

  pub set_fresh : (r : Answer) (p : Position) (shown' bits' : List ℕ) → r ≡ answers 0 p 0 → n ≡ 0 → desk p shown' bits' ≡ fresh_desk s B
      → set_up r shown' bits' ≡ setup_by n B otherwise s shown bits
  unfolding setup_by
  set_fresh r p shown' bits' e z f =
      ap (λ (a : Answer). set_up a shown' bits') e ∙ ap (λ (d : Desk). set_up (answers 0 d.position 0) d.shown d.bits) f ∙ simp (eq-eqb n 0 z)

-- the fresh position has the settings that were tested
pub fresh_placeable : (B : List ℤ) (n : ℕ) {k : ℕ} {p : Position} {s : Settings} → p ≡ fresh_of s k → Placeable s.rows s.columns B n → Placeable p.settings.rows p.settings.columns B n
fresh_placeable B n e h = rw e h

module _ (x : SetUp) (n : ℕ) where
  pub setup_by_lem : (p : Position) (s : Settings) (B : List ℤ) (shown bits : List ℕ) → x ≡ setup_by n B p s shown bits → n ≡ setup_refusal s B shown bits → p ≡ fresh_of s 0
      → x ≡ setup_of s B shown bits
  unfolding setup_of
  setup_by_lem p s B shown bits h e f = h ∙ ap₂ (λ (m : ℕ) (q : Position). setup_by m B q s shown bits) e f

  pub reset_by : (B : List ℤ) (d : Desk) → x ≡ setup_by n B d.position d.position.settings d.shown d.bits
      → n ≡ setup_refusal d.position.settings B d.shown d.bits → x ≡ reset_of B d
  unfolding reset_of
  reset_by B d h e = h ∙ ap (λ (m : ℕ). setup_by m B d.position d.position.settings d.shown d.bits) e

-- ---- the position's calls --------------------------------------------------------------------------------------------------------------

module _ (B : List ℤ) (d : Desk) (n : ℕ) (e : n ≡ position_check B d) where
  pub state_refused : (event : ℕ) (r : Answer) → (n ≡ 0 → ⊥) → r ≡ refuses B d.position n → r ≡ game_state_of B event d
  unfolding game_state_of
  state_refused event r h a = a ∙ ap (refuses B d.position) e ∙ simp (ne_eqb _ _ (λ q. h (e ∙ q)))

  pub state_unknown : (event : ℕ) (r : Answer) → n ≡ 0 → 1 < event → r ≡ answers 33 d.position 0 → r ≡ game_state_of B event d
  unfolding game_state_of
  state_unknown event r z h a = a ∙ simp (eq-eqb _ _ (sym e ∙ z), lt-leb event 1 h)

  pub state_lost : (event : ℕ) (r : Answer) (q : Position) → n ≡ 0 → event ≤ 1 → q ≡ with_game d.position Loss → r ≡ answers 0 q 0 → r ≡ game_state_of B event d
  unfolding game_state_of
  state_lost event r q z h w a = a ∙ ap (λ (x : Position). answers 0 x 0) w ∙ simp (eq-eqb _ _ (sym e ∙ z), le-leb event 1 h)

  pub solved_refused : (r : Answer) → (n ≡ 0 → ⊥) → r ≡ refuses B d.position n → r ≡ bbbv_solved_of B d
  unfolding bbbv_solved_of
  solved_refused r h a = a ∙ ap (refuses B d.position) e ∙ simp (ne_eqb _ _ (λ q. h (e ∙ q)))

  pub solved_is : (r : Answer) (b : ℕ) → n ≡ 0 → b ≡ d.position.secrets.solved_left + d.position.secrets.solved_chord → r ≡ answers 0 d.position b → r ≡ bbbv_solved_of B d
  unfolding bbbv_solved_of
  solved_is r b z h a = a ∙ ap (answers 0 d.position) h ∙ simp (eq-eqb _ _ (sym e ∙ z))

-- ---- left to solve ---------------------------------------------------------------------------------------------------------------------

module _ (B : List ℤ) (d : Desk) (work : List ℕ) (n : ℕ) (e : n ≡ lent_refusal B d work) where
  pub left_refused : (r : Answer) → (n ≡ 0 → ⊥) → r ≡ refuses B d.position n → asks r work ≡ left_to_solve_of B d work
  unfolding left_to_solve_of
  left_refused r h a = ap (λ (x : Answer). asks x work) (a ∙ ap (refuses B d.position) e) ∙ simp (ne_eqb _ _ (λ q. h (e ∙ q)))

  pub left_answered : (r : Answer) (v : ℕ) (work' : List ℕ) → n ≡ 0 → LeftMade B d.position.settings.rows d.position.settings.columns d.shown work v work'
      → r ≡ answers 0 d.position v → asks r work' ≡ left_to_solve_of B d work
  unfolding left_to_solve_of
  left_answered r v work' z m a = ap₂ asks (a ∙ ap (answers 0 d.position) m.left) m.cleared ∙ simp (eq-eqb _ _ (sym e ∙ z))
