-- Every event in every game state does in mode m what the hand itself does, and then the passes of mode m may follow; and no refusal of an event
-- reads the mode.
use mathlib.Core.Path.{◌≡◌, ◌∙◌, ap, refl}
use mathlib.Core.Bool.{Bool, true, false, not, ◌&&◌}
use mathlib.Core.List.{List}
use Prim.Native.Nat.{ℕ, ◌+◌, ◌-◌}
use lib.Dec.{eqb, leb}
use lib.IntN.{ℤ}
use lib.ListN.{get_or}
use Rattle.rules.specs.declared.Pointer.{Pointer}
use Rattle.rules.specs.declared.Pointer.TheVariants.{Cell, Off}
use Rattle.rules.specs.declared.Event.{Event}
use Rattle.rules.specs.declared.Event.TheVariants.{Lc, Lr, Rc, Rr, Mv, Mc, Mr, Cc, Pf, Unknown}
use Rattle.rules.specs.declared.GameState.{GameState}
use Rattle.rules.specs.declared.GameState.TheVariants.{Ready, Playing, Win, Loss, PreFlaging}
use Rattle.rules.specs.declared.MouseState.TheVariants.{UpDownNotFlag}
use Rattle.rules.specs.Words.{pick}
use Rattle.rules.specs.States.{is_playing, with_game, with_mouse, with_middle, with_preflags, with_right}
use Rattle.rules.specs.Grid.{cell_of}
use Rattle.rules.specs.Clicks.{Desk, Play, on, columns_of}
use Rattle.rules.specs.Passes.{right_click}
use Rattle.rules.specs.Mouse.{moved}
use Rattle.rules.specs.Step.{
  mouse,
  move,
  on_cell,
  seen_at,
  left_at,
  right_at,
  chord_at,
  chord_from,
  play_lc,
  play_lr,
  play_rc,
  play_rr,
  playing,
  pre_flag,
  ready_lc,
  ready_rc,
  ready,
  cleared_if,
  back_if,
  pre_left,
  pre_lr,
  pre_cell,
  pre_right,
  back_to_ready,
  pre_rc,
  pre_flaging,
  by_game,
  bad_pre_flag,
  event_refusal,
  plain_of,
  refusal_at,
}
use Rattle.harmless.specs.Hands.{in_mode, by_hand}
use Rattle.harmless.proofs.Modes.{played, Passed, none, alike, pick_two, left_mode, right_passed, right_mode, chord_passed}

module _ (B : List ℤ) (m : ℕ) where
  -- an action at a desk in mode m, and by hand
  abbrev Blind : (Desk → Play) → Desk → Type 0
  Blind f d = Passed B m (f (in_mode m d)) (f (by_hand d))

  -- ---- where the pointer is ----------------------------------------------------------------------------------------------------------------

  left_at_lem : (x : Pointer) (d : Desk) → Blind (left_at B x) d
  unfolding left_at
  left_at_lem (Cell r c) d = alike (left_mode B m (cell_of (columns_of d) r c) d)
  left_at_lem Off d = none refl

  right_at_lem : (x : Pointer) (d : Desk) → Blind (right_at B x) d
  unfolding right_at
  right_at_lem (Cell r c) d = right_passed B m (cell_of (columns_of d) r c) d
  right_at_lem Off d = none refl

  chord_at_lem : (x : Pointer) (d : Desk) → Blind (chord_at B x) d
  unfolding chord_at
  chord_at_lem (Cell r c) d = chord_passed B m (cell_of (columns_of d) r c) d
  chord_at_lem Off d = none refl

  chord_from_lem : (k : ℕ) (x : Pointer) (d : Desk) → Blind (chord_from B k x) d
  unfolding chord_from
  chord_from_lem k x d =
      pick_two (Passed B m) (eqb k 4) (chord_at_lem x d)
      (pick_two (Passed B m) (eqb k 5) (chord_at_lem x (on d (with_right d.position (d.position.counts.right - 1)))) (none refl))

  -- ---- Playing -----------------------------------------------------------------------------------------------------------------------------

  play_lc_lem : (x : Pointer) (d : Desk) → Blind (play_lc x) d
  unfolding play_lc moved
  play_lc_lem x d = pick_two (Passed B m) (on_cell x) (none refl) (none refl)

  play_lr_lem : (x : Pointer) (d : Desk) → Blind (play_lr B x) d
  unfolding play_lr moved
  play_lr_lem x d = pick_two (Passed B m) (eqb (mouse d) 3) (left_at_lem x (move 1 d)) (chord_from_lem (mouse d) x (move 1 d))

  -- a right click after a choice that what is shown makes
  right_by : (t : Bool) (x : Pointer) (d e : Desk) → Passed B m (right_at B x (pick t (in_mode m d) (in_mode m e))) (right_at B x (pick t (by_hand d) (by_hand e)))
  right_by true x d e = right_at_lem x d
  right_by false x d e = right_at_lem x e

  play_rc_lem : (x : Pointer) (d : Desk) → Blind (play_rc B x) d
  unfolding play_rc moved seen_at
  play_rc_lem (Cell r c) d =
      pick_two (Passed B m) (eqb (mouse d) 0)
      (right_by (leb 10 (get_or d.shown (cell_of (columns_of d) r c) 0)) (Cell r c) (move 2 d) (on d (with_mouse d.position UpDownNotFlag))) (none refl)
  play_rc_lem Off d = pick_two (Passed B m) (eqb (mouse d) 0) (right_at_lem Off (on d (with_mouse d.position UpDownNotFlag))) (none refl)

  play_rr_lem : (x : Pointer) (d : Desk) → Blind (play_rr B x) d
  unfolding play_rr moved
  play_rr_lem x d = chord_from_lem (mouse d) x (move 3 d)

  playing_blind : (e : Event) (d : Desk) → Blind (playing B e) d
  unfolding playing moved
  playing_blind (Lc x) d = play_lc_lem x d
  playing_blind (Lr x) d = play_lr_lem x d
  playing_blind (Rc x) d = play_rc_lem x d
  playing_blind (Rr x) d = play_rr_lem x d
  playing_blind (Mv x) d = none refl
  playing_blind (Mc x) d = none refl
  playing_blind (Mr x) d = chord_at_lem x (on d (with_middle d.position false))
  playing_blind (Cc x) d = none refl
  playing_blind (Pf x) d = none refl
  playing_blind (Unknown code x) d = none refl

  -- ---- Ready -------------------------------------------------------------------------------------------------------------------------------

  pre_flag_lem : (x : Pointer) (d : Desk) → Blind (pre_flag B x) d
  unfolding pre_flag
  pre_flag_lem x d = right_at_lem x (on d (with_game (with_preflags d.position (d.position.preflags + 1)) PreFlaging))

  ready_blind : (e : Event) (d : Desk) → Blind (ready B e) d
  unfolding ready ready_lc ready_rc moved
  ready_blind (Lc x) d = pick_two (Passed B m) (eqb (mouse d) 0 && on_cell x) (none refl) (none refl)
  ready_blind (Lr x) d = none refl
  ready_blind (Rc x) d =
      pick_two (Passed B m) (eqb (mouse d) 0 && on_cell x) (right_at_lem x (on d (with_game (with_preflags (moved 2 d.position) 1) PreFlaging))) (none refl)
  ready_blind (Rr x) d = none refl
  ready_blind (Mv x) d = none refl
  ready_blind (Mc x) d = none refl
  ready_blind (Mr x) d = none refl
  ready_blind (Cc x) d = none refl
  ready_blind (Pf x) d = pre_flag_lem x d
  ready_blind (Unknown code x) d = none refl

  -- ---- PreFlaging --------------------------------------------------------------------------------------------------------------------------

  pre_left_lem : (x : Pointer) (d : Desk) → Blind (pre_left B x) d
  unfolding pre_left seen_at
  pre_left_lem (Cell r c) d =
      pick_two (Passed B m) (eqb (get_or d.shown (cell_of (columns_of d) r c) 0) 10) (left_at_lem (Cell r c) (on d (with_game d.position Playing))) (none refl)
  pre_left_lem Off d = pick_two (Passed B m) (eqb d.position.preflags 0) (none refl) (none refl)

  cleared_mode : (t : Bool) (o : Play) → cleared_if t (played m o) ≡ played m (cleared_if t o)
  cleared_mode true o = refl
  cleared_mode false o = refl

  back_blind : (t : Bool) (d : Desk) → back_if t (in_mode m d) ≡ in_mode m (back_if t (by_hand d))
  back_blind true d = refl
  back_blind false d = refl

  pre_cell_lem : (i : ℕ) (d : Desk) → is_playing d.position.game ≡ false → Blind (pre_cell B i) d
  unfolding pre_cell
  pre_cell_lem i d g =
      pick_two (Passed B m) (eqb (get_or d.shown i 0) 10) (right_passed B m i (on d (with_preflags d.position (d.position.preflags + 1))))
      (pick_two (Passed B m) (eqb (get_or d.shown i 0) 11)
      (pick_two (Passed B m) (not d.position.settings.question && eqb d.position.preflags 1) (none refl)
      (right_passed B m i (on d (with_preflags d.position (d.position.preflags - 1)))))
      (alike (ap (cleared_if (eqb d.position.preflags 0)) (right_mode B m i d g) ∙ cleared_mode (eqb d.position.preflags 0) (right_click B i (by_hand d)))))

  pre_right_lem : (x : Pointer) (d : Desk) → is_playing d.position.game ≡ false → Blind (pre_right B x) d
  unfolding pre_right moved
  pre_right_lem (Cell r c) d g = pre_cell_lem (cell_of (columns_of d) r c) (move 2 d) g
  pre_right_lem Off d g = none refl

  preflaging_blind : (e : Event) (d : Desk) → is_playing d.position.game ≡ false → Blind (pre_flaging B e) d
  unfolding pre_flaging pre_rc pre_lr moved
  preflaging_blind (Lc x) d g = play_lc_lem x d
  preflaging_blind (Lr x) d g = pick_two (Passed B m) (eqb (mouse d) 3) (pre_left_lem x (move 1 d)) (play_lr_lem x d)
  preflaging_blind (Rc x) d g = pick_two (Passed B m) (eqb (mouse d) 0) (pre_right_lem x d g) (none (back_blind (back_to_ready x d) (move 2 d)))
  preflaging_blind (Rr x) d g = play_rr_lem x d
  preflaging_blind (Mv x) d g = none refl
  preflaging_blind (Mc x) d g = none refl
  preflaging_blind (Mr x) d g = none refl
  preflaging_blind (Cc x) d g = none (back_blind (back_to_ready x d) (move 7 d))
  preflaging_blind (Pf x) d g = pre_flag_lem x d
  preflaging_blind (Unknown code x) d g = none refl

  -- ---- every event, in every state ---------------------------------------------------------------------------------------------------------

  pub event_blind : (g : GameState) (e : Event) (d : Desk) → d.position.game ≡ g → Blind (by_game g B e) d
  unfolding by_game
  event_blind Ready e d g = ready_blind e d
  event_blind PreFlaging e d g = preflaging_blind e d (ap is_playing g)
  event_blind Playing e d g = playing_blind e d
  event_blind Win e d g = none refl
  event_blind Loss e d g = none refl

-- ---- the refusals ------------------------------------------------------------------------------------------------------------------------

pre_flag_blind : (m : ℕ) (e : Event) (d : Desk) → bad_pre_flag (in_mode m d) e ≡ bad_pre_flag (by_hand d) e
unfolding bad_pre_flag seen_at
pre_flag_blind m (Lc x) d = refl
pre_flag_blind m (Lr x) d = refl
pre_flag_blind m (Rc x) d = refl
pre_flag_blind m (Rr x) d = refl
pre_flag_blind m (Mv x) d = refl
pre_flag_blind m (Mc x) d = refl
pre_flag_blind m (Mr x) d = refl
pre_flag_blind m (Cc x) d = refl
pre_flag_blind m (Pf (Cell r c)) d = refl
pre_flag_blind m (Pf Off) d = refl
pre_flag_blind m (Unknown code x) d = refl

event_refusal_blind : (m : ℕ) (g : GameState) (e : Event) (d : Desk) → event_refusal g e (in_mode m d) ≡ event_refusal g e (by_hand d)
unfolding event_refusal
event_refusal_blind m Ready e d = rw (pre_flag_blind m e d)
event_refusal_blind m PreFlaging e d = rw (pre_flag_blind m e d)
event_refusal_blind m Playing e d = refl
event_refusal_blind m Win e d = refl
event_refusal_blind m Loss e d = refl

pub refusal_blind : (m code : ℕ) (x : Pointer) (d : Desk) → refusal_at code x (in_mode m d) ≡ refusal_at code x (by_hand d)
unfolding refusal_at plain_of
refusal_blind m code x d = rw (event_refusal_blind m d.position.game (plain_of code x d) d)
