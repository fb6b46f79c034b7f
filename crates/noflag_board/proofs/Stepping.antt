-- One event of the class as a call: what is not played is refused, and what is played is the board's own step on the code resolved, with the position
-- that came in given back where that refuses. Assumes nothing.
use Rattle.std.specs.Prelude.{Option, Some, None}
use Rattle.rules.specs.declared.Pointer.{Pointer}
use mathlib.Core.Path.{◌≡◌, refl, sym, ap, ap₂, ◌∙◌}
use mathlib.Core.Bool.{Bool, true, false, not, ◌&&◌, ◌||◌, true≢false, false≢true}
use mathlib.Core.List.{List}
use Prim.Native.Nat.{ℕ, ◌≤◌}
use native.Mathlib.Omega.{arith}
use borrow.Author.Tests.{eqb-true, eq-eqb, ne_eqb, le-leb, leb-true}
use lib.Dec.{eqb, leb, ltb}
use lib.IntN.{ℤ}
use Rattle.rules.specs.declared.Position.{Position}
use Rattle.rules.specs.declared.Settings.{Settings}
use Rattle.rules.specs.declared.Answer.{Answer}
use Rattle.rules.specs.declared.Place.TheVariants.{Nowhere}
use Rattle.rules.specs.declared.GameState.{GameState}
use Rattle.rules.specs.declared.GameState.TheVariants.{Ready, Playing, Win, Loss, PreFlaging}
use Rattle.rules.specs.Words.{pick, unless}
use Rattle.rules.specs.States.{mouse_number, with_middle}
use Rattle.rules.specs.Grid.{size_ok}
use Rattle.rules.specs.Board.{values_ok, numbers_ok, some_safe, board_refusal}
use Rattle.rules.specs.Opening.{opened_in}
use Rattle.rules.specs.Clicks.{Desk, Play, desk, done, on}
use Rattle.rules.specs.Mouse.{resolved, flipped}
use Rattle.rules.specs.Step.{pointer_of, step_at, step_by_of, step_on, plain_code, plain_on}
use Rattle.rules.specs.Lawful.{shown_lawful, bits_lawful, counts_lawful, game_lawful, states_lawful, lawful_refusal}
use Rattle.rules.specs.Calls.{
  Outcome,
  outcome,
  answers,
  refuses,
  boards_fit,
  work_fits,
  mode_ok,
  settings_refusal,
  position_refusal,
  lent_refusal,
  refused,
  refused_at,
  accepted,
  played,
  tested,
  step_of,
}
use Rattle.rules.specs.Promises.{StepIs}
use Rattle.cells.proofs.Words.{pick_both}
use Rattle.board.proofs.Pair.{plain_at_of, flipped_at, pair_at, full_at}
use Rattle.board.proofs.Outcomes.{event_back}
use Rattle.rules.specs.Noflag.{forbidden, class_step_on, class_lent_refusal, class_step_of, ClassStepIs}
use Rattle.noflag.specs.Class.{forbids}
use Rattle.noflag.proofs.Same.{class_forbids}
use Rattle.noflag.proofs.Calls.{lent_zero, step_same}
use Rattle.noflag_board.specs.Parts.{moded, unplayed_of, given_back}
use Rattle.noflag_board.proofs.Moding.{lent_moded}

-- ---- 20 to 264 read no middle flag -------------------------------------------------------------------------------------------------------

module _ (B : List ℤ) (d : Desk) (b : Bool) where
  game_middle : (g : GameState) → game_lawful g B (on d (with_middle d.position b)) ≡ game_lawful g B d
  unfolding game_lawful
  game_middle Ready = refl
  game_middle Playing = refl
  game_middle Win = refl
  game_middle Loss = refl
  game_middle PreFlaging = refl

  lawful_middle : lawful_refusal B (on d (with_middle d.position b)) ≡ lawful_refusal B d
  unfolding lawful_refusal shown_lawful bits_lawful counts_lawful states_lawful
  lawful_middle = rw (game_middle d.position.game) refl

  lent_middle : (work : List ℕ) → lent_refusal B (on d (with_middle d.position b)) work ≡ lent_refusal B d work
  unfolding lent_refusal position_refusal
  lent_middle work =
      ap (settings_refusal d.position.settings
      (boards_fit d.position.settings B d.shown d.bits && work_fits d.position.settings work) B) lawful_middle

-- ---- a refusal has a number from 20 on -----------------------------------------------------------------------------------------------------

abbrev Far : ℕ → Type 0
Far n = (n ≡ 0 → ⊥) → 20 ≤ n

unless_far : (k : ℕ) (b : Bool) (rest : ℕ) → 20 ≤ k → Far rest → Far (unless k b rest)
unless_far k true rest h f = f
unless_far k false rest h f = λ _. h

none_far : Far 0
none_far z = absurd (z refl)

board_far : (R C : ℕ) (fit : Bool) (B : List ℤ) → Far (board_refusal R C fit B)
unfolding board_refusal
board_far R C fit B =
    unless_far 20 (size_ok R C) _ (omega arith)
    (unless_far 21 fit _ (omega arith)
    (unless_far 22 (values_ok B) _ (omega arith)
    (unless_far 23 (numbers_ok B R C) _ (omega arith)
    (unless_far 24 (some_safe B) 0 (omega arith) none_far))))

lawful_far : (B : List ℤ) (d : Desk) → Far (lawful_refusal B d)
unfolding lawful_refusal
lawful_far B d =
    unless_far 261 (shown_lawful B d) _ (omega arith)
    (unless_far 262 (bits_lawful B d) _ (omega arith)
    (unless_far 263 (counts_lawful B d) _ (omega arith)
    (unless_far 264 (states_lawful B d) 0 (omega arith) none_far)))

settings_far : (s : Settings) (fit : Bool) (B : List ℤ) (rest : ℕ) → Far rest → Far (settings_refusal s fit B rest)
unfolding settings_refusal
settings_far s fit B rest f =
    pick_both Far (eqb (board_refusal s.rows s.columns fit B) 0) (unless 25 (mode_ok s.mode) rest) (board_refusal s.rows s.columns fit B)
    (λ _. unless_far 25 (mode_ok s.mode) rest (omega arith) f) (λ _. board_far s.rows s.columns fit B)

lent_far : (B : List ℤ) (d : Desk) (work : List ℕ) → Far (lent_refusal B d work)
unfolding lent_refusal position_refusal
lent_far B d work =
    settings_far d.position.settings
    (boards_fit d.position.settings B d.shown d.bits && work_fits d.position.settings work) B (lawful_refusal B d) (lawful_far B d)

-- ---- a plain step on the code resolved -----------------------------------------------------------------------------------------------------

-- two plays are the same, or both are refused with one number
data Alike (o q : Play) : Type 0 where
  same : o ≡ q → Alike o q
  both : (n : ℕ) → 20 ≤ n → o.answer ≡ n → q.answer ≡ n → Alike o q

resolved_alike : (B : List ℤ) (code r c : ℕ) (d : Desk) → Alike (plain_on B (plain_at_of code d) r c (flipped_at code d)) (step_on B code r c d)
unfolding step_on step_by_of
resolved_alike B code r c d = go (pointer_of d.position.settings r c)
  where
    go : (w : Option Pointer) → Alike (step_by_of B (plain_code (plain_at_of code d)) w (flipped_at code d)) (step_by_of B code w d)
    go None = both 30 (omega arith) refl refl
    go (Some x) = by (ltb d.position.events 65535) refl
      where
        by : (t : Bool) → ltb d.position.events 65535 ≡ t → Alike (step_at B (plain_code (plain_at_of code d)) x (flipped_at code d)) (step_at B code x d)
        by true room = same (pair_at B code x d room)
        by false full =
            both 31 (omega arith) (ap (λ (o : Play). o.answer) (full_at B (plain_code (plain_at_of code d)) x (flipped_at code d) full))
            (ap (λ (o : Play). o.answer) (full_at B code x d full))

-- ---- with the position given back ----------------------------------------------------------------------------------------------------------

abbrev restored : Position → Outcome → Outcome
restored p o = outcome (given_back o.answer p) o.shown o.bits o.work

module _ (shown work : List ℕ) where
  -- a refused play, as a call
  refused_call : (o : Play) (x : Desk) (n : ℕ) → 20 ≤ n → o.answer ≡ n → o.desk ≡ x → played shown o work ≡ refused n x work
  refused_call o x n h ea ed =
      ap (λ (t : Bool). pick t (refused o.answer o.desk work) (accepted o.answer (opened_in shown o.desk.shown) o.desk work)) (le-leb 20 o.answer (rw ea h))
      ∙ ap₂ (λ (k : ℕ) (y : Desk). refused k y work) ea ed

  -- of a desk that is the one given but for its position
  restored_refused : (d : Desk) (q : Position) (n : ℕ) → 20 ≤ n → restored d.position (refused n (on d q) work) ≡ refused n d work
  restored_refused d q n h =
      ap (λ (t : Bool). outcome (pick t (answers n d.position 0) (answers n q 0)) d.shown d.bits work) (le-leb 20 n h)

  -- what gave the position back gives it back
  restored_own : (d : Desk) (o : Play) → (20 ≤ o.answer → o.desk ≡ d) → restored d.position (played shown o work) ≡ played shown o work
  restored_own d o stays = go (leb 20 o.answer) refl
    where
      a : ℕ
      a = o.answer

      v : ℕ
      v = opened_in shown o.desk.shown

      go : (t : Bool) → leb 20 a ≡ t → restored d.position (pick t (refused a o.desk work) (accepted a v o.desk work))
          ≡ pick t (refused a o.desk work) (accepted a v o.desk work)
      go true e =
          let s = stays (leb-true 20 a e) in
          ap (λ (x : Desk). restored d.position (refused a x work)) s
          ∙ (restored_refused d d.position a (leb-true 20 a e) ∙ sym (ap (λ (x : Desk). refused a x work) s))
      go false e =
          let u : Outcome = accepted a v o.desk work in
          ap (λ (t : Bool). outcome (pick t (record { number = a; place = Nowhere; position = d.position; value = v }) u.answer) u.shown u.bits u.work) e

  alike_played : (d : Desk) (b : Bool) (o q : Play) → Alike o q → (20 ≤ o.answer → o.desk ≡ on d (with_middle d.position b)) → (20 ≤ q.answer → q.desk ≡ d)
      → restored d.position (played shown o work) ≡ played shown q work
  alike_played d b o q (same e) so sq = ap (λ (x : Play). restored d.position (played shown x work)) e ∙ restored_own d q sq
  alike_played d b o q (both n h ea eb) so sq =
      let m = with_middle d.position b in
      ap (restored d.position) (refused_call o (on d m) n h ea (so (rw ea h)))
      ∙ (restored_refused d m n h ∙ sym (refused_call q d n h eb (sq (rw eb h))))

-- THE PLAIN STEP on the code resolved, its refusals given back, is the event of the full game as one call
step_restored : (B : List ℤ) (code r c : ℕ) (d : Desk) (work : List ℕ)
    → restored d.position (step_of B (plain_at_of code d) r c (flipped_at code d) work) ≡ tested B d work (step_on B code r c d)
unfolding step_of
step_restored B code r c d work =
    ap (λ (m : ℕ). restored p (pick (eqb m 0) (played d.shown o work) (refused_at B m e work))) (lent_middle B d (flipped code d.position.middle) work)
    ∙ go (eqb n 0) refl
  where
    p : Position
    p = d.position

    e : Desk
    e = flipped_at code d

    o : Play
    o = plain_on B (plain_at_of code d) r c (flipped_at code d)

    n : ℕ
    n = lent_refusal B d work

    go : (t : Bool) → eqb n 0 ≡ t
        → restored p (pick t (played d.shown o work) (refused_at B n e work)) ≡ pick t (played d.shown (step_on B code r c d) work) (refused_at B n d work)
    go true z =
        alike_played d.shown work d (flipped code d.position.middle) o (step_on B code r c d) (resolved_alike B code r c d)
        (event_back B (plain_code (plain_at_of code d)) r c (flipped_at code d)) (event_back B code r c d)
    go false z =
        ap (λ (t : Bool). outcome (pick t (refuses B p n) (refuses B e.position n)) d.shown d.bits work)
        (le-leb 20 n (lent_far B d work (λ q. false≢true (sym z ∙ eq-eqb n 0 q))))

-- ---- the call ------------------------------------------------------------------------------------------------------------------------------

-- a code is played unless it is forbidden or the mode is not 0
neither : (a b : Bool) → (a || not b) ≡ false → (a ≡ false) × (b ≡ true)
neither true b e = absurd (true≢false e)
neither false true e = (refl, refl)
neither false false e = absurd (true≢false e)

module _ (p : Position) (code row column : ℕ) (B : List ℤ) (shown bits work : List ℕ) where
  abbrev here : Desk
  here = desk p shown bits

  -- what is played
  pub step_played : (t : Bool) (plain : ℕ) (middle : Bool) (q : Position) (a r : Answer) (shown' bits' work' : List ℕ)
      → t ≡ forbidden code → (t || not (eqb p.settings.mode 0)) ≡ false
      → plain ≡ resolved p.settings.rules code (mouse_number p.mouse) p.middle → middle ≡ flipped code p.middle → q ≡ with_middle p middle
      → StepIs q plain row column B shown bits work a shown' bits' work' → r ≡ given_back a p
      → ClassStepIs p code row column B shown bits work r shown' bits' work'
  step_played t plain middle q a r shown' bits' work' et free ec em eq h er =
      let k = neither t (eqb p.settings.mode 0) free in
      ap (λ (x : Answer). outcome x shown' bits' work') er
      ∙ (ap (restored p) (h ∙ ap₂ (λ (k : ℕ) (x : Position). step_of B k row column (desk x shown bits) work) ec (eq ∙ ap (with_middle p) em))
      ∙ (step_restored B code row column here work ∙ sym (step_same B code row column here work (eqb-true _ _ k.1) (sym et ∙ k.0))))

  -- what is not: its code is forbidden, or the mode is not 0
  unplayed_is : (t : Bool) → eqb (class_lent_refusal B here work) 0 ≡ t → (forbidden code || not (eqb p.settings.mode 0)) ≡ true
      → outcome (pick t (answers (forbids (ltb p.events 65535) (pointer_of p.settings row column)) p 0) (refuses B p (class_lent_refusal B here work))) shown bits work
      ≡ pick t (played shown (class_step_on B code row column here) work) (refused_at B (class_lent_refusal B here work) here work)
  unplayed_is false e h = refl
  unplayed_is true e h =
      sym (refused_call shown work (class_step_on B code row column here) here k (forbids_far (ltb p.events 65535) (pointer_of p.settings row column))
      (ap (λ (o : Play). o.answer) barred) (ap (λ (o : Play). o.desk) barred))
    where
      k : ℕ
      k = forbids (ltb p.events 65535) (pointer_of p.settings row column)

      forbids_far : (few : Bool) (w : Option Pointer) → 20 ≤ forbids few w
      forbids_far few None = omega arith
      forbids_far true (Some x) = omega arith
      forbids_far false (Some x) = omega arith

      mode : eqb p.settings.mode 0 ≡ true
      mode = eq-eqb _ _ (lent_zero B here work (eqb-true _ _ e))

      barred : class_step_on B code row column here ≡ done k here
      barred = class_forbids B code row column here (by (forbidden code) (eqb p.settings.mode 0) mode h)
        where
          by : (x y : Bool) → y ≡ true → (x || not y) ≡ true → x ≡ true
          by true y ey q = refl
          by false true ey q = q
          by false false ey q = absurd (false≢true ey)

  pub step_unplayed : (t : Bool) (r : Answer) → t ≡ forbidden code → (t || not (eqb p.settings.mode 0)) ≡ true
      → r ≡ unplayed_of B row column here work → ClassStepIs p code row column B shown bits work r shown bits work
  unfolding class_step_of
  step_unplayed t r e h er =
      ap (λ (x : Answer). outcome x shown bits work) er
      ∙ unplayed_is (eqb (class_lent_refusal B here work) 0) refl (ap (λ (u : Bool). u || not (eqb p.settings.mode 0)) (sym e) ∙ h)

-- the answer to what is not played
module _ (p : Position) (row column : ℕ) (B : List ℤ) (shown bits work : List ℕ) where
  pub lent_found : (found n : ℕ) → found ≡ lent_refusal B (desk p shown bits) work → n ≡ moded p.settings.mode found → n ≡ class_lent_refusal B (desk p shown bits) work
  lent_found found n ef en = en ∙ (ap (moded p.settings.mode) ef ∙ sym (lent_moded B (desk p shown bits) work))

  module _ (n : ℕ) (e : n ≡ class_lent_refusal B (desk p shown bits) work) (r : Answer) where
    pub unplayed_refused : (n ≡ 0 → ⊥) → r ≡ refuses B p n → r ≡ unplayed_of B row column (desk p shown bits) work
    unplayed_refused h er = er ∙ (ap (refuses B p) e ∙ simp (ne_eqb _ _ (λ q. h (e ∙ q))))

    pub unplayed_barred : (k : ℕ) → n ≡ 0 → k ≡ forbids (ltb p.events 65535) (pointer_of p.settings row column) → r ≡ answers k p 0
        → r ≡ unplayed_of B row column (desk p shown bits) work
    unplayed_barred k z ek er = er ∙ (ap (λ (m : ℕ). answers m p 0) ek ∙ simp (eq-eqb _ _ (sym e ∙ z)))
