-- Every event that is not forbidden keeps the invariant, in every game state. Assumes nothing.
use Rattle.std.specs.Prelude.{Option, Some, None}
use mathlib.Core.Path.{◌≡◌, refl, sym, ap, ◌∙◌, subst⁻¹}
use mathlib.Core.Bool.{Bool, true, false, ◌&&◌, ◌||◌, true≢false}
use mathlib.Core.List.{List}
use mathlib.Core.Logic.{◌⊎◌, inl, inr}
use Prim.Native.Nat.{ℕ, ◌<◌}
use lib.Dec.{eqb, leb}
use lib.ListN.{length}
use lib.IntN.{ℤ}
use Rattle.rules.specs.declared.Settings.{Settings}
use Rattle.rules.specs.declared.Pointer.{Pointer}
use Rattle.rules.specs.declared.Pointer.TheVariants.{Cell, Off}
use Rattle.rules.specs.declared.Event.{Event}
use Rattle.rules.specs.declared.Event.TheVariants.{Lc, Lr, Rc, Rr, Mv, Mc, Mr, Cc, Pf, Unknown}
use Rattle.rules.specs.declared.GameState.{GameState}
use Rattle.rules.specs.declared.GameState.TheVariants.{Ready, Playing, Win, Loss, PreFlaging}
use Rattle.rules.specs.Words.{pick}
use Rattle.rules.specs.States.{with_game, with_middle}
use Rattle.rules.specs.Grid.{cell_of}
use Rattle.rules.specs.Clicks.{Desk, done, on, columns_of, add_left}
use Rattle.rules.specs.Mouse.{moved, both_down, resolved, flipped}
use Rattle.rules.specs.Step.{
  mouse,
  move,
  on_cell,
  seen_at,
  left_at,
  chord_at,
  chord_from,
  play_lc,
  play_lr,
  playing,
  ready_lc,
  ready,
  cleared,
  pre_left,
  pre_lr,
  pre_flaging,
  by_game,
  pointer_of,
  event_of,
  plain_of,
  refusal_at,
  play_at,
  step_at,
  step_by_of,
  step_on,
}
use Rattle.cells.specs.Ground.{Valued}
use Rattle.cells.proofs.Words.{pick_both}
use Rattle.cells.proofs.Grid.{cell_lt}
use Rattle.bits.proofs.Bits.{bit_none}
use Rattle.keep.specs.Kept.{Inside}
use Rattle.keep.proofs.Step.{pointer_inside}
use Rattle.rules.specs.Noflag.{forbidden}
use Rattle.noflag.proofs.Bare.{Spotless, SpotlessO, press, release, up_number}
use Rattle.noflag.proofs.Opens.{left_spotless, chord_counts_lem}

-- ---- the events that are not of the right button -----------------------------------------------------------------------------------------

-- the event is none of the right button, and its pointer is on the board or off it
abbrev pub Allowed : Settings → Event → Type 0
Allowed s (Lc x) = Inside s x
Allowed s (Lr x) = Inside s x
Allowed s (Rc x) = ⊥
Allowed s (Rr x) = ⊥
Allowed s (Mv x) = Inside s x
Allowed s (Mc x) = Inside s x
Allowed s (Mr x) = Inside s x
Allowed s (Cc x) = ⊥
Allowed s (Pf x) = ⊥
Allowed s (Unknown code x) = Inside s x

-- a plain code that is none of the right button
record Plain (code : ℕ) : Type 0 where
  not_rc : eqb code 2 ≡ false
  not_rr : eqb code 3 ≡ false
  not_cc : eqb code 7 ≡ false
  not_pf : eqb code 8 ≡ false

neither : (a b : Bool) → (a || b) ≡ false → (a ≡ false) × (b ≡ false)
neither true b e = absurd (true≢false e)
neither false b e = (refl, e)

plain_codes : (code : ℕ) → forbidden code ≡ false → Plain code × (eqb code 10 ≡ false)
unfolding forbidden
plain_codes code e =
    let a = neither (eqb code 2) _ e in
    let b = neither (eqb code 3) _ a.1 in
    let c = neither (eqb code 7) _ b.1 in
    let d = neither (eqb code 8) _ c.1 in
    (record { not_rc = a.0; not_rr = b.0; not_cc = c.0; not_pf = d.0 }, d.1)

-- a code that is none of the right button's, told from its number
plain : (code : ℕ) → eqb code 2 ≡ false → eqb code 3 ≡ false → eqb code 7 ≡ false → eqb code 8 ≡ false → Plain code
plain code a b c d = record { not_rc = a; not_rr = b; not_cc = c; not_pf = d }

-- `l` and `m` stand for left and middle codes
resolved_plain : (rules code m : ℕ) (middle : Bool) → forbidden code ≡ false → Plain (resolved rules code m middle)
unfolding resolved
resolved_plain rules code m middle e =
    let a = plain_codes code e in
    pick_both Plain (eqb code 9) (pick (leb 3 m) 1 0) _
    (λ _. pick_both Plain (leb 3 m) 1 0 (λ _. plain 1 refl refl refl refl) (λ _. plain 0 refl refl refl refl))
    (λ _. pick_both Plain (eqb code 10) (pick (eqb m 1 || (both_down m || (eqb m 2 && eqb rules 2))) 3 2) _ (λ t. absurd (true≢false (sym t ∙ a.1)))
    (λ _. pick_both Plain (eqb code 11) (pick middle 6 5) code
    (λ _. pick_both Plain middle 6 5 (λ _. plain 6 refl refl refl refl) (λ _. plain 5 refl refl refl refl))
    (λ _. a.0)))

plain_allowed : (s : Settings) (code : ℕ) (x : Pointer) → Plain code → Inside s x → Allowed s (event_of code x)
unfolding event_of
plain_allowed s code x p i =
    pick_both (Allowed s) (eqb code 0) (Lc x) _ (λ _. i) (λ _. pick_both (Allowed s) (eqb code 1) (Lr x) _ (λ _. i)
    (λ _. pick_both (Allowed s) (eqb code 2) (Rc x) _ (λ t. absurd (true≢false (sym t ∙ p.not_rc)))
    (λ _. pick_both (Allowed s) (eqb code 3) (Rr x) _ (λ t. absurd (true≢false (sym t ∙ p.not_rr)))
    (λ _. pick_both (Allowed s) (eqb code 4) (Mv x) _ (λ _. i) (λ _. pick_both (Allowed s) (eqb code 5) (Mc x) _ (λ _. i)
    (λ _. pick_both (Allowed s) (eqb code 6) (Mr x) _ (λ _. i)
    (λ _. pick_both (Allowed s) (eqb code 7) (Cc x) _ (λ t. absurd (true≢false (sym t ∙ p.not_cc)))
    (λ _. pick_both (Allowed s) (eqb code 8) (Pf x) (Unknown code x) (λ t. absurd (true≢false (sym t ∙ p.not_pf))) (λ _. i)))))))))

-- ---- the mouse ---------------------------------------------------------------------------------------------------------------------------

press_spotless : (d : Desk) → Spotless d → Spotless (move 0 d)
unfolding moved
press_spotless d h = (h.0, inr (press d.position.mouse h.1))

release_spotless : (d : Desk) → Spotless d → Spotless (move 1 d)
unfolding moved
release_spotless d h = (h.0, inl (release d.position.mouse h.1))

-- with no button down a release does nothing
up_release : (B : List ℤ) (x : Pointer) (d : Desk) → mouse d ≡ 0 → play_lr B x d ≡ done 0 (move 1 d)
unfolding play_lr chord_from
up_release B x d e =
    ap (λ (m : ℕ). pick (eqb m 3) (left_at B x (move 1 d)) (chord_from B m x (move 1 d))) e

-- ---- the game states ---------------------------------------------------------------------------------------------------------------------

module _ (B : List ℤ) (v : Valued B) where
  left_at_spotless : (x : Pointer) (d : Desk) → Spotless d → SpotlessO (left_at B x d)
  unfolding left_at
  left_at_spotless (Cell r c) d h = left_spotless B v (cell_of (columns_of d) r c) d h
  left_at_spotless Off d h = h

  chord_at_spotless : (x : Pointer) (d : Desk) → Inside d.position.settings x → Spotless d → SpotlessO (chord_at B x d)
  unfolding chord_at
  chord_at_spotless (Cell r c) d i h =
      subst⁻¹ SpotlessO
      (chord_counts_lem B (cell_of (columns_of d) r c) d h.0
      (subst⁻¹ (λ (n : ℕ). cell_of (columns_of d) r c < n) h.0.long (cell_lt d.position.settings.rows (columns_of d) r c i.0 i.1)))
      h
  chord_at_spotless Off d i h = h

  play_lc_spotless : (x : Pointer) (d : Desk) → Spotless d → SpotlessO (play_lc x d)
  unfolding play_lc
  play_lc_spotless x d h = pick_both SpotlessO (on_cell x) (done 0 (move 0 d)) (done 0 (add_left d)) (λ _. press_spotless d h) (λ _. h)

  -- the left button goes up with no other button down
  play_lr_spotless : (x : Pointer) (d : Desk) → Spotless d → SpotlessO (play_lr B x d)
  unfolding play_lr
  play_lr_spotless x d h = go (up_number d.position.mouse h.1)
    where
      go : (mouse d ≡ 0) ⊎ (mouse d ≡ 3) → SpotlessO (play_lr B x d)
      go (inl e) = subst⁻¹ SpotlessO (up_release B x d e) (release_spotless d h)
      go (inr e) =
          subst⁻¹ (λ (m : ℕ). SpotlessO (pick (eqb m 3) (left_at B x (move 1 d)) (chord_from B (mouse d) x (move 1 d)))) e
          (left_at_spotless x (move 1 d) (release_spotless d h))

  playing_spotless : (e : Event) (d : Desk) → Allowed d.position.settings e → Spotless d → SpotlessO (playing B e d)
  unfolding playing
  playing_spotless (Lc x) d i h = play_lc_spotless x d h
  playing_spotless (Lr x) d i h = play_lr_spotless x d h
  playing_spotless (Rc x) d i h = absurd i
  playing_spotless (Rr x) d i h = absurd i
  playing_spotless (Mv x) d i h = h
  playing_spotless (Mc x) d i h = h
  playing_spotless (Mr x) d i h = chord_at_spotless x (on d (with_middle d.position false)) i h
  playing_spotless (Cc x) d i h = absurd i
  playing_spotless (Pf x) d i h = absurd i
  playing_spotless (Unknown code x) d i h = h

  ready_lc_spotless : (x : Pointer) (d : Desk) → Spotless d → SpotlessO (ready_lc x d)
  unfolding ready_lc moved
  ready_lc_spotless x d h =
      pick_both SpotlessO (eqb (mouse d) 0 && on_cell x) (done 0 (on d (with_game (moved 0 d.position) PreFlaging))) (done 0 (move 0 d))
      (λ _. (h.0, inr (press d.position.mouse h.1))) (λ _. press_spotless d h)

  ready_spotless : (e : Event) (d : Desk) → Allowed d.position.settings e → Spotless d → SpotlessO (ready B e d)
  unfolding ready
  ready_spotless (Lc x) d i h = ready_lc_spotless x d h
  ready_spotless (Lr x) d i h = release_spotless d h
  ready_spotless (Rc x) d i h = absurd i
  ready_spotless (Rr x) d i h = absurd i
  ready_spotless (Mv x) d i h = h
  ready_spotless (Mc x) d i h = h
  ready_spotless (Mr x) d i h = h
  ready_spotless (Cc x) d i h = absurd i
  ready_spotless (Pf x) d i h = absurd i
  ready_spotless (Unknown code x) d i h = h

  cleared_spotless : (d : Desk) → Spotless d → Spotless (cleared d)
  cleared_spotless d h =
      let b = h.0 in (
        record {
          mode = b.mode;
          long = b.long;
          flooded = b.flooded;
          no_flag = b.no_flag;
          no_wrong = b.no_wrong;
          no_question = b.no_question;
          no_bit = bit_none (length d.bits);
          flag = refl;
          right = refl;
          dce = refl;
          rce = refl;
          chord = b.chord;
          pre = b.pre;
        },
        h.1,
      )

  pre_left_spotless : (x : Pointer) (d : Desk) → Spotless d → SpotlessO (pre_left B x d)
  unfolding pre_left
  pre_left_spotless x d h =
      pick_both SpotlessO (on_cell x) (pick (eqb (seen_at d x) 10) (left_at B x (on d (with_game d.position Playing))) (done 0 (add_left d)))
      (pick (eqb d.position.preflags 0) (done 0 (cleared d)) (done 0 (add_left d)))
      (λ _. pick_both SpotlessO (eqb (seen_at d x) 10) (left_at B x (on d (with_game d.position Playing))) (done 0 (add_left d))
      (λ _. left_at_spotless x (on d (with_game d.position Playing)) h) (λ _. h))
      (λ _. pick_both SpotlessO (eqb d.position.preflags 0) (done 0 (cleared d)) (done 0 (add_left d)) (λ _. cleared_spotless d h) (λ _. h))

  pre_lr_spotless : (x : Pointer) (d : Desk) → Spotless d → SpotlessO (pre_lr B x d)
  unfolding pre_lr
  pre_lr_spotless x d h =
      pick_both SpotlessO (eqb (mouse d) 3) (pre_left B x (move 1 d)) (play_lr B x d) (λ _. pre_left_spotless x (move 1 d) (release_spotless d h))
      (λ _. play_lr_spotless x d h)

  pre_flaging_spotless : (e : Event) (d : Desk) → Allowed d.position.settings e → Spotless d → SpotlessO (pre_flaging B e d)
  unfolding pre_flaging
  pre_flaging_spotless (Lc x) d i h = play_lc_spotless x d h
  pre_flaging_spotless (Lr x) d i h = pre_lr_spotless x d h
  pre_flaging_spotless (Rc x) d i h = absurd i
  pre_flaging_spotless (Rr x) d i h = absurd i
  pre_flaging_spotless (Mv x) d i h = h
  pre_flaging_spotless (Mc x) d i h = h
  pre_flaging_spotless (Mr x) d i h = h
  pre_flaging_spotless (Cc x) d i h = absurd i
  pre_flaging_spotless (Pf x) d i h = absurd i
  pre_flaging_spotless (Unknown code x) d i h = h

  by_game_spotless : (g : GameState) (e : Event) (d : Desk) → Allowed d.position.settings e → Spotless d → SpotlessO (by_game g B e d)
  unfolding by_game
  by_game_spotless Ready e d i h = ready_spotless e d i h
  by_game_spotless PreFlaging e d i h = pre_flaging_spotless e d i h
  by_game_spotless Playing e d i h = playing_spotless e d i h
  by_game_spotless Win e d i h = h
  by_game_spotless Loss e d i h = h

  -- ---- the step --------------------------------------------------------------------------------------------------------------------------

  play_at_spotless : (code : ℕ) (x : Pointer) (d : Desk) → forbidden code ≡ false → Inside d.position.settings x → Spotless d → SpotlessO (play_at B code x d)
  unfolding play_at plain_of
  play_at_spotless code x d f i h =
      by_game_spotless d.position.game (plain_of code x d) (on d (with_middle d.position (flipped code d.position.middle)))
      (plain_allowed d.position.settings (resolved d.position.settings.rules code (mouse d) d.position.middle) x
      (resolved_plain d.position.settings.rules code (mouse d) d.position.middle f) i) h

  step_at_spotless : (code : ℕ) (x : Pointer) (d : Desk) → forbidden code ≡ false → Inside d.position.settings x → Spotless d → SpotlessO (step_at B code x d)
  unfolding step_at
  step_at_spotless code x d f i h =
      pick_both SpotlessO (eqb (refusal_at code x d) 0) (play_at B code x d) (done (refusal_at code x d) d) (λ _. play_at_spotless code x d f i h) (λ _. h)

  step_by_spotless : (code : ℕ) (p : Option Pointer) (d : Desk) → forbidden code ≡ false → ((x : Pointer) → p ≡ Some x → Inside d.position.settings x) → Spotless d
      → SpotlessO (step_by_of B code p d)
  unfolding step_by_of
  step_by_spotless code (Some x) d f i h = step_at_spotless code x d f (i x refl) h
  step_by_spotless code None d f i h = h

  -- THE step of the full game, on a code that is not forbidden
  pub step_spotless : (code r c : ℕ) (d : Desk) → forbidden code ≡ false → Spotless d → SpotlessO (step_on B code r c d)
  unfolding step_on
  step_spotless code r c d f h =
      step_by_spotless code (pointer_of d.position.settings r c) d f (pointer_inside d.position.settings r c) h
