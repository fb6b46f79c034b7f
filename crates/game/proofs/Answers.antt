-- The numbers of a step: an event that is played answers 0 to 4, one that is refused 30 to 33.
use mathlib.Core.Path.{◌≡◌, refl}
use mathlib.Core.Bool.{Bool, true, false, not, ◌&&◌}
use mathlib.Core.List.{List}
use Prim.Native.Nat.{ℕ, ◌+◌, ◌≤◌}
use native.Mathlib.Omega.{arith}
use lib.Dec.{eqb, ltb}
use lib.ListN.{get_or}
use lib.IntN.{ℤ}
use Rattle.rules.specs.declared.Pointer.{Pointer}
use Rattle.rules.specs.declared.Pointer.TheVariants.{Cell, Off}
use Rattle.rules.specs.declared.Event.{Event}
use Rattle.rules.specs.declared.Event.TheVariants.{Lc, Lr, Rc, Rr, Mv, Mc, Mr, Cc, Pf, Unknown}
use Rattle.rules.specs.declared.GameState.{GameState}
use Rattle.rules.specs.declared.GameState.TheVariants.{Ready, Playing, Win, Loss, PreFlaging}
use Rattle.rules.specs.Words.{pick, unless}
use Rattle.rules.specs.Opening.{Opened, closed_at}
use Rattle.rules.specs.States.{with_dce}
use Rattle.rules.specs.Clicks.{Desk, Play, done, on, rows_of, columns_of, chord_is_useful, uncovered, ended, left_opens, left_click, take_back, chord_opens, perform_chord}
use Rattle.rules.specs.Passes.{add_double, right_click, chording_click}
use Rattle.rules.specs.Step.{mouse, on_cell, seen_at, errs_playing, errs_pre_flaging, is_unknown, bad_pre_flag, left_at, right_at, chord_at, chord_from, play_lc, play_lr, play_rc, play_rr, playing, pre_flag, ready_lc, ready_rc, ready, pre_left, pre_lr, cleared_if, pre_cell, pre_right, pre_rc, pre_flaging, by_game, event_refusal, play_at}
use Rattle.cells.proofs.Words.{pick_both}
use Rattle.game.specs.Core.{play_event}

-- an answer of the game
pub record Small (o : Play) : Type 0 where
  pub small : o.answer ≤ 4

either : (b : Bool) (x y : Play) → Small x → Small y → Small (pick b x y)
either b x y hx hy = pick_both Small b x y (λ _. hx) (λ _. hy)

module _ (B : List ℤ) where
  ended_small : (n : ℕ) (d : Desk) (o : Opened) → n ≤ 4 → Small (ended n d o)
  unfolding ended
  ended_small n d o h = either o.hit _ _ (record { small = omega arith }) (either (eqb (uncovered d o.shown).position.counts.unopened 0) _ _ (record { small = h }) (record { small = h }))

  left_small : (i : ℕ) (d : Desk) → Small (left_click B i d)
  unfolding left_click left_opens
  left_small i d = either (closed_at d.shown i) _ _ (ended_small 2 _ _ (omega arith)) (record { small = omega arith })

  take_small : (i : ℕ) (d : Desk) → Small (take_back i d)
  unfolding take_back
  take_small i d =
      either (eqb (get_or d.shown i 0) 11) _ _ (record { small = omega arith })
      (either (eqb (get_or d.shown i 0) 17) _ _ (record { small = omega arith }) (record { small = omega arith }))

  right_small : (i : ℕ) (d : Desk) → Small (right_click B i d)
  unfolding right_click
  right_small i d = either (closed_at d.shown i) _ _ (record { small = omega arith }) (take_small i _)

  perform_small : (i : ℕ) (d : Desk) → Small (perform_chord B i d)
  unfolding perform_chord chord_opens
  perform_small i d = either (chord_is_useful (rows_of d) (columns_of d) d.shown i) _ _ (ended_small 3 _ _ (omega arith)) (record { small = omega arith })

  chorded_small : (b : Bool) (o : Play) → Small o → (pick b o (done o.answer (on o.desk (with_dce o.desk.position (o.desk.position.counts.dce + 1))))).answer ≤ 4
  chorded_small true o h = h.small
  chorded_small false o h = h.small

  chording_small : (i : ℕ) (d : Desk) → Small (chording_click B i d)
  unfolding chording_click
  chording_small i d = record { small = chorded_small (eqb (perform_chord B i (add_double d)).answer 0) (perform_chord B i (add_double d)) (perform_small i (add_double d)) }

  left_at_small : (x : Pointer) (d : Desk) → Small (left_at B x d)
  unfolding left_at
  left_at_small (Cell r c) d = left_small _ d
  left_at_small Off d = record { small = omega arith }

  right_at_small : (x : Pointer) (d : Desk) → Small (right_at B x d)
  unfolding right_at
  right_at_small (Cell r c) d = right_small _ d
  right_at_small Off d = record { small = omega arith }

  chord_at_small : (x : Pointer) (d : Desk) → Small (chord_at B x d)
  unfolding chord_at
  chord_at_small (Cell r c) d = chording_small _ d
  chord_at_small Off d = record { small = omega arith }

  chord_from_small : (m : ℕ) (x : Pointer) (d : Desk) → Small (chord_from B m x d)
  unfolding chord_from
  chord_from_small m x d = either (eqb m 4) _ _ (chord_at_small x d) (either (eqb m 5) _ _ (chord_at_small x _) (record { small = omega arith }))

  lr_small : (x : Pointer) (d : Desk) → Small (play_lr B x d)
  unfolding play_lr
  lr_small x d = either (eqb (mouse d) 3) _ _ (left_at_small x _) (chord_from_small _ x _)

  lc_small : (x : Pointer) (d : Desk) → Small (play_lc x d)
  unfolding play_lc
  lc_small x d = either (on_cell x) _ _ (record { small = omega arith }) (record { small = omega arith })

  rc_small : (x : Pointer) (d : Desk) → Small (play_rc B x d)
  unfolding play_rc
  rc_small x d = either (eqb (mouse d) 0) _ _ (right_at_small x _) (record { small = omega arith })

  rr_small : (x : Pointer) (d : Desk) → Small (play_rr B x d)
  unfolding play_rr
  rr_small x d = chord_from_small _ x _

  playing_small : (e : Event) (d : Desk) → Small (playing B e d)
  unfolding playing
  playing_small (Lc x) d = lc_small x d
  playing_small (Lr x) d = lr_small x d
  playing_small (Rc x) d = rc_small x d
  playing_small (Rr x) d = rr_small x d
  playing_small (Mv x) d = record { small = omega arith }
  playing_small (Mc x) d = record { small = omega arith }
  playing_small (Mr x) d = chord_at_small x _
  playing_small (Cc x) d = record { small = omega arith }
  playing_small (Pf x) d = record { small = omega arith }
  playing_small (Unknown code x) d = record { small = omega arith }

  pre_flag_small : (x : Pointer) (d : Desk) → Small (pre_flag B x d)
  unfolding pre_flag
  pre_flag_small x d = right_at_small x _

  ready_lc_small : (x : Pointer) (d : Desk) → Small (ready_lc x d)
  unfolding ready_lc
  ready_lc_small x d = either (eqb (mouse d) 0 && on_cell x) _ _ (record { small = omega arith }) (record { small = omega arith })

  ready_rc_small : (x : Pointer) (d : Desk) → Small (ready_rc B x d)
  unfolding ready_rc
  ready_rc_small x d = either (eqb (mouse d) 0 && on_cell x) _ _ (right_at_small x _) (record { small = omega arith })

  ready_small : (e : Event) (d : Desk) → Small (ready B e d)
  unfolding ready
  ready_small (Lc x) d = ready_lc_small x d
  ready_small (Lr x) d = record { small = omega arith }
  ready_small (Rc x) d = ready_rc_small x d
  ready_small (Rr x) d = record { small = omega arith }
  ready_small (Mv x) d = record { small = omega arith }
  ready_small (Mc x) d = record { small = omega arith }
  ready_small (Mr x) d = record { small = omega arith }
  ready_small (Cc x) d = record { small = omega arith }
  ready_small (Pf x) d = pre_flag_small x d
  ready_small (Unknown code x) d = record { small = omega arith }

  pre_left_small : (x : Pointer) (d : Desk) → Small (pre_left B x d)
  unfolding pre_left
  pre_left_small x d = either (on_cell x) _ _ (either (eqb (seen_at d x) 10) _ _ (left_at_small x _) (record { small = omega arith })) (either (eqb d.position.preflags 0) _ _ (record { small = omega arith }) (record { small = omega arith }))

  pre_lr_small : (x : Pointer) (d : Desk) → Small (pre_lr B x d)
  unfolding pre_lr
  pre_lr_small x d = either (eqb (mouse d) 3) _ _ (pre_left_small x _) (lr_small x d)

  cleared_small : (b : Bool) (o : Play) → Small o → Small (cleared_if b o)
  cleared_small true o h = record { small = h.small }
  cleared_small false o h = h

  pre_cell_small : (i : ℕ) (d : Desk) → Small (pre_cell B i d)
  unfolding pre_cell
  pre_cell_small i d =
      either (eqb (get_or d.shown i 0) 10) _ _ (right_small i _)
      (either (eqb (get_or d.shown i 0) 11) _ _ (either (not d.position.settings.question && eqb d.position.preflags 1) _ _ (record { small = omega arith }) (right_small i _)) (cleared_small (eqb d.position.preflags 0) (right_click B i d) (right_small i d)))

  pre_right_small : (x : Pointer) (d : Desk) → Small (pre_right B x d)
  unfolding pre_right
  pre_right_small (Cell r c) d = pre_cell_small _ _
  pre_right_small Off d = record { small = omega arith }

  pre_rc_small : (x : Pointer) (d : Desk) → Small (pre_rc B x d)
  unfolding pre_rc
  pre_rc_small x d = either (eqb (mouse d) 0) _ _ (pre_right_small x d) (record { small = omega arith })

  preflaging_small : (e : Event) (d : Desk) → Small (pre_flaging B e d)
  unfolding pre_flaging
  preflaging_small (Lc x) d = lc_small x d
  preflaging_small (Lr x) d = pre_lr_small x d
  preflaging_small (Rc x) d = pre_rc_small x d
  preflaging_small (Rr x) d = rr_small x d
  preflaging_small (Mv x) d = record { small = omega arith }
  preflaging_small (Mc x) d = record { small = omega arith }
  preflaging_small (Mr x) d = record { small = omega arith }
  preflaging_small (Cc x) d = record { small = omega arith }
  preflaging_small (Pf x) d = pre_flag_small x d
  preflaging_small (Unknown code x) d = record { small = omega arith }

  event_small : (g : GameState) (e : Event) (d : Desk) → Small (by_game g B e d)
  unfolding by_game
  event_small Ready e d = ready_small e d
  event_small PreFlaging e d = preflaging_small e d
  event_small Playing e d = playing_small e d
  event_small Win e d = record { small = omega arith }
  event_small Loss e d = record { small = omega arith }

  -- an event that is played answers 0 to 4
  pub event_answers : (e : Event) (d : Desk) → Small (play_event B e d)
  event_answers e d = record { small = (event_small d.position.game e d).small }

  pub play_answers : (code : ℕ) (x : Pointer) (d : Desk) → Small (play_at B code x d)
  unfolding play_at
  play_answers code x d = record { small = (event_small _ _ _).small }

-- refused with a number from 30 on, or not at all
pub data Refuses (n : ℕ) : Type 0 where
  none : n ≡ 0 → Refuses n
  some : 30 ≤ n → Refuses n

unless_refuses : (n : ℕ) (b : Bool) (rest : ℕ) → 30 ≤ n → Refuses rest → Refuses (unless n b rest)
unless_refuses n true rest h r = r
unless_refuses n false rest h r = some h

event_refuses : (g : GameState) (e : Event) (d : Desk) → Refuses (event_refusal g e d)
unfolding event_refusal
event_refuses Ready e d = unless_refuses 32 (not (bad_pre_flag d e)) _ (omega arith) (unless_refuses 33 (not (is_unknown e)) _ (omega arith) (none refl))
event_refuses PreFlaging e d = unless_refuses 32 (not (bad_pre_flag d e)) _ (omega arith) (unless_refuses 33 (not (errs_pre_flaging (mouse d) e)) _ (omega arith) (none refl))
event_refuses Playing e d = unless_refuses 33 (not (errs_playing (mouse d) e)) _ (omega arith) (none refl)
event_refuses Win e d = none refl
event_refuses Loss e d = none refl

-- by 31 to 33
pub refusal_refuses : (e : Event) (d : Desk) → Refuses (unless 31 (ltb d.position.events 65535) (event_refusal d.position.game e d))
refusal_refuses e d = unless_refuses 31 (ltb d.position.events 65535) _ (omega arith) (event_refuses d.position.game e d)

pub refused_from : (n : ℕ) → Refuses n → (n ≡ 0 → ⊥) → 30 ≤ n
refused_from n (none e) h = absurd (h e)
refused_from n (some l) h = l
