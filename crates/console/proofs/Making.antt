-- What each call answers for a flat position: the flat form of what board's call leaves; where a byte means nothing, the refusal of the position that
-- was read, and the flat position goes back.
use mathlib.Core.Path.{◌≡◌, refl, ap, sym, ◌∙◌}
use mathlib.Core.Bool.{Bool, true, false, true≢false, ◌&&◌}
use mathlib.Core.List.{List, [], ◌∷◌}
use Prim.Native.Nat.{ℕ, ◌%◌}
use borrow.Author.Tests.{eq-eqb}
use lib.Dec.{eqb}
use lib.ListN.{length}
use lib.IntN.{ℤ}
use Rattle.rules.specs.declared.Settings.{Settings}
use Rattle.rules.specs.declared.Position.{Position}
use Rattle.rules.specs.declared.Answer.{Answer}
use Rattle.rules.specs.declared.Value.{Value}
use Rattle.rules.specs.Words.{pick}
use Rattle.rules.specs.Board.{fault_of}
use Rattle.rules.specs.Clicks.{Desk, desk}
use Rattle.rules.specs.Calls.{Outcome, SetUp, Asked, outcome, set_up, refuses, checks, boards_fit, work_fits, position_refusal, position_check, position_check_of, lent_refusal, flow_refusal, setup_of, reset_of, resolve_of, step_of, flow_of, game_state_of, bbbv_solved_of, left_to_solve_of, total_of}
use Rattle.rules.specs.Promises.{asks, totals}
use Rattle.board.proofs.Outcomes.{resolve_refused, step_refused, flow_refused, left_to_solve_refused, step_game_state_refused, bbbv_solved_refused}
use Rattle.flats.specs.declared.FlatPosition.{FlatPosition}
use Rattle.flats.specs.declared.FlatAnswer.{FlatAnswer}
use Rattle.flats.specs.declared.FlatValue.{FlatValue}
use Rattle.flats.specs.Flat.{means, unclear, settings_of, position_in, gives, flat_answer, flat_value}
use Rattle.reads.specs.Reading.{Reads, answer_for, reset_for}
use Rattle.console.specs.Promises.{Leaves, leaves, refuses_flat, flat_set_up, reset_or, flat_totalled, setup_flat, reset_flat, resolve_flat, step_flat, flow_flat, position_flat, game_state_flat, bbbv_solved_flat, left_flat}

-- ---- a byte that means nothing ---------------------------------------------------------------------------------------------------------

pub unclear_some : (n k : ℕ) → k ≡ unclear n → k ≡ 0 → ⊥
unclear_some n k e z = true≢false (sym (eq-eqb _ _ (sym e ∙ z)) ∙ go (eqb n 0) refl)
  where
    go : (b : Bool) → eqb n 0 ≡ b → eqb (pick b 264 n) 0 ≡ false
    go true d = refl
    go false d = d

-- p is what board was called on
module _ (B : List ℤ) (f : FlatPosition) (shown bits : List ℕ) (p : Position) (h : Reads f p) where
  -- the desk that the bytes are read as, and the one that the call is made on
  abbrev read : Desk
  read = desk (position_in f) shown bits

  abbrev made : Desk
  made = desk p shown bits

  module _ (m : means f ≡ false) where
    -- the lengths are tested by the settings, which are those of f
    refused_as : (fits : Settings → Bool)
        → position_refusal (fits p.settings) B made ≡ unclear (position_refusal (fits (position_in f).settings) B read)
    refused_as fits =
        let s = h.spoilt m in
        ap (λ (t : Settings). position_refusal (fits t) B made) s.settings ∙ s.refused (fits (position_in f).settings) B shown bits

    check_as : position_check B made ≡ unclear (position_check B read)
    unfolding position_check
    check_as = refused_as (λ s. boards_fit s B shown bits)

    pub lent_as : (work : List ℕ) → lent_refusal B made work ≡ unclear (lent_refusal B read work)
    unfolding lent_refusal
    lent_as work = refused_as (λ s. boards_fit s B shown bits && work_fits s work)

    flow_as : (events work : List ℕ) → flow_refusal B events made work ≡ unclear (flow_refusal B events read work)
    unfolding flow_refusal
    flow_as events work = refused_as (λ s. boards_fit s B shown bits && (work_fits s work && eqb (length events % 3) 0))

    check_some : position_check B made ≡ 0 → ⊥
    check_some = unclear_some (position_check B read) _ check_as

    lent_some : (work : List ℕ) → lent_refusal B made work ≡ 0 → ⊥
    lent_some work = unclear_some (lent_refusal B read work) _ (lent_as work)

    flow_some : (events work : List ℕ) → flow_refusal B events made work ≡ 0 → ⊥
    flow_some events work = unclear_some (flow_refusal B events read work) _ (flow_as events work)

    -- a refusal of p, as it goes back
    refused_back : (n k : ℕ) → k ≡ unclear n → (a : Answer) → a ≡ refuses B p k → gives a.number a.place f 0 ≡ refuses_flat B f (unclear n)
    refused_back n k e a ea =
        ap (λ (x : Answer). gives x.number x.place f 0) ea
        ∙ ap (λ (s : Settings). gives k (fault_of s.rows s.columns B k) f 0) (h.spoilt m).settings
        ∙ ap (refuses_flat B f) e

  -- ---- the calls on a position ---------------------------------------------------------------------------------------------------------

  module _ (a : Answer) (r : FlatAnswer) (er : r ≡ answer_for f a) where
    -- x is the definition's answer, n the refusal of what the bytes are read as, k that of p
    answered : (x : Answer) (n k : ℕ) → (means f ≡ true → a ≡ x) → (means f ≡ false → k ≡ unclear n) → (means f ≡ false → a ≡ refuses B p k)
        → r ≡ pick (means f) (flat_answer x) (refuses_flat B f (unclear n))
    answered x n k clear number refused = er ∙ go (means f) refl
      where
        go : (b : Bool) → means f ≡ b → pick b (flat_answer a) (gives a.number a.place f 0) ≡ pick b (flat_answer x) (refuses_flat B f (unclear n))
        go true m = ap flat_answer (clear m)
        go false m = refused_back m n k (number m) a (refused m)

    -- the same with what is lent: ls before, ls' after, and ms what the definition leaves
    pub left : (x : Answer) (n k : ℕ) (ls ls' ms : List (List ℕ)) → (means f ≡ true → leaves a ls' ≡ leaves x ms) → (means f ≡ false → k ≡ unclear n)
        → (means f ≡ false → leaves a ls' ≡ leaves (refuses B p k) ls)
        → leaves r ls' ≡ pick (means f) (leaves (flat_answer x) ms) (leaves (refuses_flat B f (unclear n)) ls)
    left x n k ls ls' ms clear number refused = ap (λ (q : FlatAnswer). leaves q ls') er ∙ go (means f) refl
      where
        go : (b : Bool) → means f ≡ b
            → leaves (pick b (flat_answer a) (gives a.number a.place f 0)) ls' ≡ pick b (leaves (flat_answer x) ms) (leaves (refuses_flat B f (unclear n)) ls)
        go true m = ap (λ (o : Leaves Answer). leaves (flat_answer o.answer) o.lent) (clear m)
        go false m =
            ap (λ (q : FlatAnswer). leaves q ls') (refused_back m n k (number m) a (ap (λ (o : Leaves Answer). o.answer) (refused m)))
            ∙ ap (λ (o : Leaves Answer). leaves (refuses_flat B f (unclear n)) o.lent) (refused m)

    abbrev all : Outcome → Leaves Answer
    all o = leaves o.answer (o.shown ∷ o.bits ∷ o.work ∷ [])

    pub step_flat_lem : (code x y : ℕ) (work shown' bits' work' : List ℕ) → outcome a shown' bits' work' ≡ step_of B code x y made work
        → leaves r (shown' ∷ bits' ∷ work' ∷ []) ≡ step_flat B code x y f shown bits work
    unfolding step_flat
    step_flat_lem code x y work shown' bits' work' e =
        left (step_of B code x y read work).answer (lent_refusal B read work) (lent_refusal B made work) _ _ _
        (λ m. ap all (e ∙ ap (λ (q : Position). step_of B code x y (desk q shown bits) work) (h.clear m)))
        (λ m. lent_as m work)
        (λ m. ap all (e ∙ step_refused B made work code x y (lent_some m work)))

    pub flow_flat_lem : (events work shown' bits' work' : List ℕ) → outcome a shown' bits' work' ≡ flow_of B events made work
        → leaves r (shown' ∷ bits' ∷ work' ∷ []) ≡ flow_flat B events f shown bits work
    unfolding flow_flat
    flow_flat_lem events work shown' bits' work' e =
        left (flow_of B events read work).answer (flow_refusal B events read work) (flow_refusal B events made work) _ _ _
        (λ m. ap all (e ∙ ap (λ (q : Position). flow_of B events (desk q shown bits) work) (h.clear m)))
        (λ m. flow_as m events work)
        (λ m. ap all (e ∙ flow_refused B made work events (flow_some m events work)))

    abbrev asked : Asked → Leaves Answer
    asked o = leaves o.answer (o.work ∷ [])

    pub left_flat_lem : (work work' : List ℕ) → asks a work' ≡ left_to_solve_of B made work → leaves r (work' ∷ []) ≡ left_flat B f shown bits work
    unfolding left_flat
    left_flat_lem work work' e =
        left (left_to_solve_of B read work).answer (lent_refusal B read work) (lent_refusal B made work) _ _ _
        (λ m. ap asked (e ∙ ap (λ (q : Position). left_to_solve_of B (desk q shown bits) work) (h.clear m)))
        (λ m. lent_as m work)
        (λ m. ap asked (e ∙ left_to_solve_refused B made work (lent_some m work)))

    pub resolve_flat_lem : (code r' c : ℕ) → a ≡ resolve_of B code r' c made → r ≡ resolve_flat B code r' c f shown bits
    unfolding resolve_flat
    resolve_flat_lem code r' c e =
        answered _ (position_check B read) (position_check B made)
        (λ m. e ∙ ap (λ (q : Position). resolve_of B code r' c (desk q shown bits)) (h.clear m))
        (λ m. check_as m)
        (λ m. e ∙ resolve_refused B made (check_some m) code r' c)

    pub state_flat : (event : ℕ) → a ≡ game_state_of B event made → r ≡ game_state_flat B event f shown bits
    unfolding game_state_flat
    state_flat event e =
        answered _ (position_check B read) (position_check B made)
        (λ m. e ∙ ap (λ (q : Position). game_state_of B event (desk q shown bits)) (h.clear m))
        (λ m. check_as m)
        (λ m. e ∙ step_game_state_refused B made (check_some m) event)

    pub solved_flat : a ≡ bbbv_solved_of B made → r ≡ bbbv_solved_flat B f shown bits
    unfolding bbbv_solved_flat
    solved_flat e =
        answered _ (position_check B read) (position_check B made)
        (λ m. e ∙ ap (λ (q : Position). bbbv_solved_of B (desk q shown bits)) (h.clear m))
        (λ m. check_as m)
        (λ m. e ∙ bbbv_solved_refused B made (check_some m))

  -- the position check: its number, and with it the place
  pub position_flat_lem : (v : Value) (r : FlatValue) → r ≡ flat_value v → v ≡ position_check_of B made
      → r ≡ flat_value (checks f.rows f.columns B (position_flat B f shown bits))
  unfolding position_flat
  position_flat_lem v r er ev = er ∙ ap flat_value ev ∙ go (means f) refl
    where
      go : (b : Bool) → means f ≡ b
          → flat_value (position_check_of B made) ≡ flat_value (checks f.rows f.columns B (pick b (position_check B read) (unclear (position_check B read))))
      go true m = ap (λ (q : Position). flat_value (position_check_of B (desk q shown bits))) (h.clear m)
      go false m =
          ap (λ (s : Settings). flat_value (checks s.rows s.columns B (position_check B made))) (h.spoilt m).settings
          ∙ ap (λ (k : ℕ). flat_value (checks f.rows f.columns B k)) (check_as m)

-- ---- the calls without one, and reset --------------------------------------------------------------------------------------------------

pub setup_flat_lem : (rows columns mode question rules : ℕ) (s : Settings) (B : List ℤ) (shown bits : List ℕ) (a : Answer) (r : FlatAnswer) (shown' bits' : List ℕ)
    → s ≡ settings_of rows columns mode question rules → set_up a shown' bits' ≡ setup_of s B shown bits → r ≡ flat_answer a
    → leaves r (shown' ∷ bits' ∷ []) ≡ setup_flat rows columns mode question rules B shown bits
unfolding setup_flat
setup_flat_lem rows columns mode question rules s B shown bits a r shown' bits' es h er =
    ap (λ (t : FlatAnswer). leaves t (shown' ∷ bits' ∷ [])) er ∙ ap flat_set_up (h ∙ ap (λ (g : Settings). setup_of g B shown bits) es)

-- reset's two cases are those of its answer
reset_leaves : (f : FlatPosition) (o : SetUp) → leaves (reset_for f o.answer) (o.shown ∷ o.bits ∷ []) ≡ reset_or f o
reset_leaves f o = go (eqb o.answer.number 0)
  where
    go : (b : Bool)
        → leaves (pick b (flat_answer o.answer) (gives o.answer.number o.answer.place f 0)) (o.shown ∷ o.bits ∷ [])
        ≡ pick b (flat_set_up o) (leaves (gives o.answer.number o.answer.place f 0) (o.shown ∷ o.bits ∷ []))
    go true = refl
    go false = refl

pub reset_flat_lem : (B : List ℤ) (f : FlatPosition) (shown bits : List ℕ) (p : Position) (a : Answer) (shown' bits' : List ℕ) (r : FlatAnswer) → p ≡ position_in f
    → set_up a shown' bits' ≡ reset_of B (desk p shown bits) → r ≡ reset_for f a → leaves r (shown' ∷ bits' ∷ []) ≡ reset_flat B f shown bits
unfolding reset_flat
reset_flat_lem B f shown bits p a shown' bits' r ep h er =
    ap (λ (t : FlatAnswer). leaves t (shown' ∷ bits' ∷ [])) er
    ∙ reset_leaves f (set_up a shown' bits')
    ∙ ap (reset_or f) (h ∙ ap (λ (q : Position). reset_of B (desk q shown bits)) ep)

pub total_flat : (rows columns : ℕ) (B : List ℤ) (work : List ℕ) (v : Value) (r : FlatValue) (work' : List ℕ) → r ≡ flat_value v → totals v work' ≡ total_of rows columns B work
    → leaves r (work' ∷ []) ≡ flat_totalled (total_of rows columns B work)
total_flat rows columns B work v r work' er h = ap (λ (q : FlatValue). leaves q (work' ∷ [])) er ∙ ap flat_totalled h
