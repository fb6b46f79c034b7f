-- No step closes an open cell: there are never fewer cells that show 0 to 8. So what a step opens can be read from the safe cells still closed.
use Rattle.std.specs.Prelude.{Option, Some, None}
use mathlib.Core.Path.{◌≡◌, ◌∙◌, sym, refl, ap}
use mathlib.Core.Bool.{Bool, true, false, not, ◌&&◌}
use mathlib.Core.List.{List, [], ◌∷◌}
use Prim.Native.Nat.{ℕ, zero, suc, ◌+◌, ◌-◌, ◌*◌, ◌≤◌}
use native.Mathlib.Omega.{arith}
use borrow.Author.Tests.{eqb-true}
use lib.Dec.{leb, eqb}
use lib.ListN.{length, get_or, set}
use lib.IntN.{ℤ}
use Rattle.rules.specs.declared.Settings.{Settings}
use Rattle.rules.specs.declared.Pointer.{Pointer}
use Rattle.rules.specs.declared.Pointer.TheVariants.{Cell, Off}
use Rattle.rules.specs.declared.Event.{Event}
use Rattle.rules.specs.declared.Event.TheVariants.{Lc, Lr, Rc, Rr, Mv, Mc, Mr, Cc, Pf, Unknown}
use Rattle.rules.specs.declared.GameState.{GameState}
use Rattle.rules.specs.declared.GameState.TheVariants.{Ready, Playing, Win, Loss, PreFlaging}
use Rattle.rules.specs.Words.{pick}
use Rattle.rules.specs.States.{is_playing, with_dce}
use Rattle.rules.specs.Opening.{Opened, closed_at, refreshed, is_open, opened_in}
use Rattle.rules.specs.Clicks.{Desk, Play, done, on, rows_of, columns_of, cells_of, add_right, flagged, chord_is_useful, uncovered, ended, left_opens, left_click, take_back, chord_opens, perform_chord}
use Rattle.rules.specs.Passes.{Round, Scan, found_any, listed, flag_one, flag_all, flag_round, flag_pass, chord_one, chord_scan, chord_round, chord_more, chord_pass, both_round, both_pass, mode_both, mode_flag, mode_chord, passes_after_flag, passes_after_chord, add_double, add_dce, right_click, chording_click}
use Rattle.rules.specs.Step.{mouse, on_cell, seen_at, left_at, right_at, chord_at, chord_from, play_lc, play_lr, play_rc, play_rr, playing, pre_flag, ready_lc, ready_rc, ready, pre_left, pre_lr, cleared_if, pre_cell, pre_right, back_to_ready, pre_rc, pre_flaging, by_game, refusal_at, pointer_of, play_at, step_at, step_by_of, step_on}
use Rattle.cells.specs.Ground.{Valued}
use Rattle.cells.specs.Promises.{open_in}
use Rattle.cells.proofs.Words.{pick_both, rounds_keep}
use Rattle.opening.proofs.Ticking.{ticked_shut, closed_shut, ticked_back, opening_newly}
use Rattle.keep.specs.Kept.{LawfulAt}
use Rattle.keep.proofs.Unopened.{OpenSafe, open_safe, unopened_less, opened_fell}
use Rattle.keep.proofs.Step.{step_follows}

-- at least n cells are open
abbrev Wide : ℕ → Desk → Type 0
Wide n d = n ≤ open_in d.shown

-- and so they are after a play
pub record Opens (n : ℕ) (o : Play) : Type 0 where
  pub wide : n ≤ open_in o.desk.shown

module _ (B : List ℤ) (v : Valued B) (n : ℕ) where
  either : (b : Bool) (x y : Play) → Opens n x → Opens n y → Opens n (pick b x y)
  either b x y hx hy = pick_both (Opens n) b x y (λ _. hx) (λ _. hy)

  -- a cell that is not open is shown anew, and is not open
  set_wide : (shown : List ℕ) (i x : ℕ) → n ≤ open_in shown → is_open (get_or shown i 0) ≡ false → is_open x ≡ false → n ≤ open_in (set shown i x)
  set_wide shown i x h e f = omega (arith, (ticked_shut 0 shown i x e f).counted)

  -- ---- the clicks ------------------------------------------------------------------------------------------------------------------------

  refreshed_wide : (R C : ℕ) (given shown : List ℕ) → n ≤ open_in shown → n ≤ open_in (refreshed B R C given shown).shown
  refreshed_wide R C given shown h = omega (arith, opening_newly B R C given shown v)

  ended_opens : (a : ℕ) (d : Desk) (o : Opened) → n ≤ open_in o.shown → Opens n (ended a d o)
  unfolding ended
  ended_opens a d o h = either o.hit _ _ (record { wide = h }) (either (eqb (uncovered d o.shown).position.counts.unopened 0) _ _ (record { wide = h }) (record { wide = h }))

  left_opens_lem : (i : ℕ) (d : Desk) → Wide n d → Opens n (left_click B i d)
  unfolding left_click left_opens
  left_opens_lem i d h =
      either (closed_at d.shown i) _ _ (ended_opens 2 _ _ (refreshed_wide (rows_of d) (columns_of d) (i ∷ []) d.shown h)) (record { wide = h })

  take_opens : (i : ℕ) (d : Desk) → Wide n d → Opens n (take_back i d)
  take_opens i d h = record { wide = omega (arith, (ticked_back 0 i d).counted) }

  perform_opens : (i : ℕ) (d : Desk) → Wide n d → Opens n (perform_chord B i d)
  unfolding perform_chord chord_opens
  perform_opens i d h =
      either (chord_is_useful (rows_of d) (columns_of d) d.shown i) _ _ (ended_opens 3 _ _ (refreshed_wide (rows_of d) (columns_of d) _ d.shown h)) (record { wide = h })

  -- ---- the passes ------------------------------------------------------------------------------------------------------------------------

  flag_one_wide : (i : ℕ) (d : Desk) → Wide n d → Wide n (flag_one B i d)
  unfolding flag_one
  flag_one_wide i d h = pick_both (Wide n) (closed_at d.shown i) _ _ (λ e. set_wide d.shown i 11 h (closed_shut d.shown i e) refl) (λ _. h)

  flag_all_wide : (st : List ℕ) (d : Desk) → Wide n d → Wide n (flag_all B st d)
  unfolding flag_all
  flag_all_wide [] d h = h
  flag_all_wide (i ∷ st) d h = flag_one_wide i (flag_all B st d) (flag_all_wide st d h)

  flag_round_wide : (r : Round) → Wide n r.desk → Wide n (flag_round B r).desk
  unfolding flag_round
  flag_round_wide r h = flag_all_wide (listed (rows_of r.desk) (columns_of r.desk) r.desk.shown (cells_of r.desk)) r.desk h

  flag_wide : (d : Desk) → Wide n d → Wide n (flag_pass B d)
  unfolding flag_pass
  flag_wide d h = rounds_keep (flag_round B) found_any (λ (r : Round). Wide n r.desk) flag_round_wide (suc (cells_of d)) (record { desk = d; any = true }) h

  chord_one_wide : (i : ℕ) (s : Scan) → Wide n s.desk → Wide n (chord_one B i s).desk
  unfolding chord_one
  chord_one_wide i s h =
      pick_both (λ (x : Scan). Wide n x.desk) (is_playing s.desk.position.game) _ _
      (λ _. pick_both (λ (x : Scan). Wide n x.desk) (eqb (perform_chord B i s.desk).answer 0) _ _ (λ _. h) (λ _. (perform_opens i s.desk h).wide))
      (λ _. h)

  chord_scan_wide : (m : ℕ) (s : Scan) → Wide n s.desk → Wide n (chord_scan B m s).desk
  unfolding chord_scan
  chord_scan_wide zero s h = h
  chord_scan_wide (suc m) s h = chord_one_wide m (chord_scan B m s) (chord_scan_wide m s h)

  chord_round_wide : (s : Scan) → Wide n s.desk → Wide n (chord_round B s).desk
  unfolding chord_round
  chord_round_wide s h = chord_scan_wide (cells_of s.desk) (record { desk = s.desk; any = false; ever = s.ever }) h

  chord_wide : (d : Desk) → Wide n d → Wide n (chord_pass B d).desk
  unfolding chord_pass
  chord_wide d h =
      rounds_keep (chord_round B) chord_more (λ (s : Scan). Wide n s.desk) chord_round_wide (suc (cells_of d)) (record { desk = d; any = false; ever = false }) h

  both_round_wide : (r : Round) → Wide n r.desk → Wide n (both_round B r).desk
  unfolding both_round
  both_round_wide r h = chord_wide (flag_pass B r.desk) (flag_wide r.desk h)

  both_wide : (d : Desk) → Wide n d → Wide n (both_pass B d)
  unfolding both_pass
  both_wide d h = rounds_keep (both_round B) found_any (λ (r : Round). Wide n r.desk) both_round_wide (suc (cells_of d)) (record { desk = d; any = true }) h

  after_flag_wide : (d : Desk) → Wide n d → Wide n (passes_after_flag B d)
  unfolding passes_after_flag
  after_flag_wide d h =
      pick_both (Wide n) (is_playing d.position.game) _ _
      (λ _. pick_both (Wide n) (mode_both d.position.settings.mode) _ _ (λ _. both_wide d h)
      (λ _. pick_both (Wide n) (mode_flag d.position.settings.mode) _ _ (λ _. flag_wide d h) (λ _. h)))
      (λ _. h)

  after_chord_wide : (d : Desk) → Wide n d → Wide n (passes_after_chord B d)
  unfolding passes_after_chord
  after_chord_wide d h =
      pick_both (Wide n) (is_playing d.position.game) _ _
      (λ _. pick_both (Wide n) (mode_both d.position.settings.mode) _ _ (λ _. both_wide d h)
      (λ _. pick_both (Wide n) (mode_chord d.position.settings.mode) _ _ (λ _. chord_wide d h) (λ _. h)))
      (λ _. h)

  -- ---- by hand ---------------------------------------------------------------------------------------------------------------------------

  right_opens : (i : ℕ) (d : Desk) → Wide n d → Opens n (right_click B i d)
  unfolding right_click
  right_opens i d h =
      pick_both (Opens n) (closed_at d.shown i) _ _
      (λ e. record { wide = after_flag_wide (flagged B i (add_right d)) (set_wide d.shown i 11 h (closed_shut d.shown i e) refl) })
      (λ _. take_opens i (add_right d) h)

  chording_opens : (i : ℕ) (d : Desk) → Wide n d → Opens n (chording_click B i d)
  unfolding chording_click
  chording_opens i d h =
      let o = perform_chord B i (add_double d) in
      let w = (perform_opens i (add_double d) h).wide in
      record {
        wide =
            after_chord_wide (add_dce o).desk
            (pick_both (λ (x : Play). Wide n x.desk) (eqb o.answer 0) o (done o.answer (on o.desk (with_dce o.desk.position (o.desk.position.counts.dce + 1)))) (λ _. w) (λ _. w));
      }

  left_at_opens : (x : Pointer) (d : Desk) → Wide n d → Opens n (left_at B x d)
  unfolding left_at
  left_at_opens (Cell r c) d h = left_opens_lem _ d h
  left_at_opens Off d h = record { wide = h }

  right_at_opens : (x : Pointer) (d : Desk) → Wide n d → Opens n (right_at B x d)
  unfolding right_at
  right_at_opens (Cell r c) d h = right_opens _ d h
  right_at_opens Off d h = record { wide = h }

  chord_at_opens : (x : Pointer) (d : Desk) → Wide n d → Opens n (chord_at B x d)
  unfolding chord_at
  chord_at_opens (Cell r c) d h = chording_opens _ d h
  chord_at_opens Off d h = record { wide = h }

  -- ---- the events ------------------------------------------------------------------------------------------------------------------------

  chord_from_opens : (m : ℕ) (x : Pointer) (d : Desk) → Wide n d → Opens n (chord_from B m x d)
  unfolding chord_from
  chord_from_opens m x d h = either (eqb m 4) _ _ (chord_at_opens x d h) (either (eqb m 5) _ _ (chord_at_opens x _ h) (record { wide = h }))

  lc_opens : (x : Pointer) (d : Desk) → Wide n d → Opens n (play_lc x d)
  unfolding play_lc
  lc_opens x d h = either (on_cell x) _ _ (record { wide = h }) (record { wide = h })

  lr_opens : (x : Pointer) (d : Desk) → Wide n d → Opens n (play_lr B x d)
  unfolding play_lr
  lr_opens x d h = either (eqb (mouse d) 3) _ _ (left_at_opens x _ h) (chord_from_opens _ x _ h)

  rc_opens : (x : Pointer) (d : Desk) → Wide n d → Opens n (play_rc B x d)
  unfolding play_rc
  rc_opens x d h = either (eqb (mouse d) 0) _ _ (right_at_opens x _ (pick_both (Wide n) (leb 10 (seen_at d x)) _ _ (λ _. h) (λ _. h))) (record { wide = h })

  rr_opens : (x : Pointer) (d : Desk) → Wide n d → Opens n (play_rr B x d)
  unfolding play_rr
  rr_opens x d h = chord_from_opens _ x _ h

  playing_opens : (e : Event) (d : Desk) → Wide n d → Opens n (playing B e d)
  unfolding playing
  playing_opens (Lc x) d h = lc_opens x d h
  playing_opens (Lr x) d h = lr_opens x d h
  playing_opens (Rc x) d h = rc_opens x d h
  playing_opens (Rr x) d h = rr_opens x d h
  playing_opens (Mv x) d h = record { wide = h }
  playing_opens (Mc x) d h = record { wide = h }
  playing_opens (Mr x) d h = chord_at_opens x _ h
  playing_opens (Cc x) d h = record { wide = h }
  playing_opens (Pf x) d h = record { wide = h }
  playing_opens (Unknown code x) d h = record { wide = h }

  pre_flag_opens : (x : Pointer) (d : Desk) → Wide n d → Opens n (pre_flag B x d)
  unfolding pre_flag
  pre_flag_opens x d h = right_at_opens x _ h

  ready_lc_opens : (x : Pointer) (d : Desk) → Wide n d → Opens n (ready_lc x d)
  unfolding ready_lc
  ready_lc_opens x d h = either (eqb (mouse d) 0 && on_cell x) _ _ (record { wide = h }) (record { wide = h })

  ready_rc_opens : (x : Pointer) (d : Desk) → Wide n d → Opens n (ready_rc B x d)
  unfolding ready_rc
  ready_rc_opens x d h = either (eqb (mouse d) 0 && on_cell x) _ _ (right_at_opens x _ h) (record { wide = h })

  ready_opens : (e : Event) (d : Desk) → Wide n d → Opens n (ready B e d)
  unfolding ready
  ready_opens (Lc x) d h = ready_lc_opens x d h
  ready_opens (Lr x) d h = record { wide = h }
  ready_opens (Rc x) d h = ready_rc_opens x d h
  ready_opens (Rr x) d h = record { wide = h }
  ready_opens (Mv x) d h = record { wide = h }
  ready_opens (Mc x) d h = record { wide = h }
  ready_opens (Mr x) d h = record { wide = h }
  ready_opens (Cc x) d h = record { wide = h }
  ready_opens (Pf x) d h = pre_flag_opens x d h
  ready_opens (Unknown code x) d h = record { wide = h }

  pre_left_opens : (x : Pointer) (d : Desk) → Wide n d → Opens n (pre_left B x d)
  unfolding pre_left
  pre_left_opens x d h =
      either (on_cell x) _ _ (either (eqb (seen_at d x) 10) _ _ (left_at_opens x _ h) (record { wide = h }))
      (either (eqb d.position.preflags 0) _ _ (record { wide = h }) (record { wide = h }))

  pre_lr_opens : (x : Pointer) (d : Desk) → Wide n d → Opens n (pre_lr B x d)
  unfolding pre_lr
  pre_lr_opens x d h = either (eqb (mouse d) 3) _ _ (pre_left_opens x _ h) (lr_opens x d h)

  cleared_opens : (b : Bool) (o : Play) → Opens n o → Opens n (cleared_if b o)
  cleared_opens true o h = record { wide = h.wide }
  cleared_opens false o h = h

  pre_cell_opens : (i : ℕ) (d : Desk) → Wide n d → Opens n (pre_cell B i d)
  unfolding pre_cell
  pre_cell_opens i d h =
      either (eqb (get_or d.shown i 0) 10) _ _ (right_opens i _ h)
      (pick_both (Opens n) (eqb (get_or d.shown i 0) 11) _ _
      (λ e. either (not d.position.settings.question && eqb d.position.preflags 1) _ _
      (record { wide = set_wide d.shown i 10 h (ap is_open (eqb-true (get_or d.shown i 0) 11 e)) refl }) (right_opens i _ h))
      (λ _. cleared_opens (eqb d.position.preflags 0) (right_click B i d) (right_opens i d h)))

  pre_right_opens : (x : Pointer) (d : Desk) → Wide n d → Opens n (pre_right B x d)
  unfolding pre_right
  pre_right_opens (Cell r c) d h = pre_cell_opens _ _ h
  pre_right_opens Off d h = record { wide = h }

  back_wide : (b : Bool) (d e : Desk) → Wide n d → Wide n e → Wide n (pick b d e)
  back_wide b d e h k = pick_both (Wide n) b d e (λ _. h) (λ _. k)

  pre_rc_opens : (x : Pointer) (d : Desk) → Wide n d → Opens n (pre_rc B x d)
  unfolding pre_rc
  pre_rc_opens x d h = either (eqb (mouse d) 0) _ _ (pre_right_opens x d h) (record { wide = back_wide (back_to_ready x d) _ _ h h })

  preflaging_opens : (e : Event) (d : Desk) → Wide n d → Opens n (pre_flaging B e d)
  unfolding pre_flaging
  preflaging_opens (Lc x) d h = lc_opens x d h
  preflaging_opens (Lr x) d h = pre_lr_opens x d h
  preflaging_opens (Rc x) d h = pre_rc_opens x d h
  preflaging_opens (Rr x) d h = rr_opens x d h
  preflaging_opens (Mv x) d h = record { wide = h }
  preflaging_opens (Mc x) d h = record { wide = h }
  preflaging_opens (Mr x) d h = record { wide = h }
  preflaging_opens (Cc x) d h = record { wide = back_wide (back_to_ready x d) _ _ h h }
  preflaging_opens (Pf x) d h = pre_flag_opens x d h
  preflaging_opens (Unknown code x) d h = record { wide = h }

  event_opens : (g : GameState) (e : Event) (d : Desk) → Wide n d → Opens n (by_game g B e d)
  unfolding by_game
  event_opens Ready e d h = ready_opens e d h
  event_opens PreFlaging e d h = preflaging_opens e d h
  event_opens Playing e d h = playing_opens e d h
  event_opens Win e d h = record { wide = h }
  event_opens Loss e d h = record { wide = h }

  -- ---- the step --------------------------------------------------------------------------------------------------------------------------

  play_opens : (code : ℕ) (x : Pointer) (d : Desk) → Wide n d → Opens n (play_at B code x d)
  unfolding play_at
  play_opens code x d h = record { wide = (event_opens d.position.game _ _ h).wide }

  at_opens : (code : ℕ) (x : Pointer) (d : Desk) → Wide n d → Opens n (step_at B code x d)
  unfolding step_at
  at_opens code x d h = either (eqb (refusal_at code x d) 0) _ _ (play_opens code x d h) (record { wide = h })

  by_opens : (code : ℕ) (w : Option Pointer) (d : Desk) → Wide n d → Opens n (step_by_of B code w d)
  unfolding step_by_of
  by_opens code (Some x) d h = at_opens code x d h
  by_opens code None d h = record { wide = h }

-- THE LAW: as many cells are open after a step as before, at least
pub step_opens : (B : List ℤ) → Valued B → (code r c : ℕ) (d : Desk) → open_in d.shown ≤ open_in (step_on B code r c d).desk.shown
unfolding step_on
step_opens B v code r c d = (by_opens B v (open_in d.shown) code (pointer_of d.position.settings r c) d (omega arith)).wide

-- ---- what a step opens is what the number of safe cells still closed falls by ------------------------------------------------------------

pub record Fell (d e : Desk) : Type 0 where
  pub less : e.position.counts.unopened ≤ d.position.counts.unopened
  pub by : d.position.counts.unopened - e.position.counts.unopened ≡ opened_in d.shown e.shown

lawful_fell : (B : List ℤ) (d e : Desk) → LawfulAt B d → LawfulAt B e → e.position.settings ≡ d.position.settings → open_in d.shown ≤ open_in e.shown → Fell d e
lawful_fell B d e l m es more =
    let s = l.kept.sound in
    let t = m.kept.sound in
    let long : length e.shown ≡ length d.shown = t.ground.board ∙ ap (λ (x : Settings). x.rows * x.columns) es ∙ sym s.ground.board in
    let safe : OpenSafe B d.shown = λ i lt. open_safe _ _ _ _ (s.cells i lt) in
    let safe' : OpenSafe B e.shown = λ i lt. open_safe _ _ _ _ (t.cells i lt) in
    record {
      less = omega (arith, s.unopened, t.unopened, unopened_less B d.shown e.shown long safe safe' more);
      by = omega (arith, s.unopened, t.unopened, opened_fell B d.shown e.shown long safe safe' more);
    }

pub step_fell : (B : List ℤ) (code r c : ℕ) (d : Desk) → LawfulAt B d → Fell d (step_on B code r c d).desk
step_fell B code r c d l =
    let f = step_follows B code r c d l in
    lawful_fell B d (step_on B code r c d).desk l f.lawful f.settings (step_opens B l.kept.sound.ground.mined.valued code r c d)
