-- No click but for its passes reads the mode: in mode m it does what the hand itself does, in mode 0, and then the passes of mode m may follow.
use mathlib.Core.Path.{◌≡◌, ◌∙◌, sym, ap, refl}
use mathlib.Core.Bool.{Bool, true, false}
use mathlib.Core.List.{List, [], ◌∷◌}
use Prim.Native.Nat.{ℕ}
use lib.Dec.{eqb}
use lib.IntN.{ℤ}
use lib.ListN.{get_or}
use Rattle.rules.specs.Words.{pick}
use Rattle.rules.specs.States.{is_playing}
use Rattle.rules.specs.Board.{mine_at}
use Rattle.rules.specs.Opening.{closed_at, Opened, refreshed}
use Rattle.rules.specs.Clicks.{Desk, Play, done, rows_of, columns_of, add_left, add_right, left_counts, solves_left, left_opens, left_click, flagged, take_back, uncovered, ended, chord_is_useful, closed_around, chord_counts, chord_opens, perform_chord}
use Rattle.rules.specs.Passes.{flag_pass, chord_pass, both_pass, mode_both, mode_flag, mode_chord, passes_after_flag, passes_after_chord, right_click, add_double, add_dce, chording_click}
use Rattle.cells.proofs.Words.{pick_both}
use Rattle.harmless.specs.Hands.{in_mode, by_hand}

-- the same answer, with the desk in another mode
abbrev pub played : ℕ → Play → Play
played m o = done o.answer (in_mode m o.desk)

-- what is done in mode m is what the hand itself does, and then nothing, or the passes after a flag or a chord
pub data Passed (B : List ℤ) (m : ℕ) (o o' : Play) : Type 0 where
  none : o.desk ≡ in_mode m o'.desk → Passed B m o o'
  after_flag : o.desk ≡ passes_after_flag B (in_mode m o'.desk) → Passed B m o o'
  after_chord : o.desk ≡ passes_after_chord B (in_mode m o'.desk) → Passed B m o o'

pub alike : {B : List ℤ} {m : ℕ} {o o' : Play} → o ≡ played m o' → Passed B m o o'
alike e = none (ap (λ (o : Play). o.desk) e)

-- two choices by one test
pub pick_two : {A : Type 0} (P : A → A → Type 0) (t : Bool) {x y x' y' : A} → P x x' → P y y' → P (pick t x y) (pick t x' y')
pick_two P true p q = p
pick_two P false p q = q

-- ---- mode 0 runs no pass -----------------------------------------------------------------------------------------------------------------

pub no_flags : (B : List ℤ) (d : Desk) → d.position.settings.mode ≡ 0 → passes_after_flag B d ≡ d
unfolding passes_after_flag
no_flags B d e =
    ap (λ (m : ℕ). pick (is_playing d.position.game) (pick (mode_both m) (both_pass B d) (pick (mode_flag m) (flag_pass B d) d)) d) e
    ∙ pick_both (λ (x : Desk). x ≡ d) (is_playing d.position.game) d d (λ _. refl) (λ _. refl)

pub no_chords : (B : List ℤ) (d : Desk) → d.position.settings.mode ≡ 0 → passes_after_chord B d ≡ d
unfolding passes_after_chord
no_chords B d e =
    ap (λ (m : ℕ). pick (is_playing d.position.game) (pick (mode_both m) (both_pass B d) (pick (mode_chord m) (chord_pass B d).desk d)) d) e
    ∙ pick_both (λ (x : Desk). x ≡ d) (is_playing d.position.game) d d (λ _. refl) (λ _. refl)

-- ---- clicks ------------------------------------------------------------------------------------------------------------------------------

module _ (B : List ℤ) (m : ℕ) where
  abbrev Same : Play → Play → Type 0
  Same o o' = o ≡ played m o'

  -- how an opening ends
  ended_mode : (a : ℕ) (d : Desk) (o : Opened) → Same (ended a (in_mode m d) o) (ended a (by_hand d) o)
  unfolding ended
  ended_mode a d o = pick_two Same o.hit refl (pick_two Same (eqb (uncovered d o.shown).position.counts.unopened 0) refl refl)

  pub left_mode : (i : ℕ) (d : Desk) → Same (left_click B i (in_mode m d)) (left_click B i (by_hand d))
  unfolding left_click left_opens solves_left
  left_mode i d = pick_two Same (closed_at d.shown i) (go (mine_at B i)) refl
    where
      o : Opened
      o = refreshed B (rows_of d) (columns_of d) (i ∷ []) d.shown

      go : (t : Bool) → Same (ended 2 (pick t (add_left (in_mode m d)) (left_counts B (add_left (in_mode m d)) i)) o) (ended 2 (pick t (add_left (by_hand d)) (left_counts B (add_left (by_hand d)) i)) o)
      go true = ended_mode 2 (add_left d) o
      go false = ended_mode 2 (left_counts B (add_left d) i) o

  pub chord_mode : (i : ℕ) (d : Desk) → Same (perform_chord B i (in_mode m d)) (perform_chord B i (by_hand d))
  unfolding perform_chord chord_opens
  chord_mode i d =
      let cells : List ℕ = closed_around (rows_of d) (columns_of d) d.shown i in
      pick_two Same (chord_is_useful (rows_of d) (columns_of d) d.shown i)
      (ended_mode 3 (chord_counts B cells d) (refreshed B (rows_of d) (columns_of d) cells d.shown)) refl

  back_mode : (i : ℕ) (d : Desk) → Same (take_back i (in_mode m d)) (take_back i (by_hand d))
  unfolding take_back
  back_mode i d = pick_two Same (eqb (get_or d.shown i 0) 11) refl (pick_two Same (eqb (get_or d.shown i 0) 17) refl refl)

  -- RIGHT
  pub right_passed : (i : ℕ) (d : Desk) → Passed B m (right_click B i (in_mode m d)) (right_click B i (by_hand d))
  unfolding right_click
  right_passed i d =
      pick_two (Passed B m) (closed_at d.shown i)
      (after_flag (ap (λ (e : Desk). passes_after_flag B (in_mode m e)) (sym (no_flags B (flagged B i (add_right (by_hand d))) refl))))
      (alike (back_mode i (add_right d)))

  -- RIGHT where the game is not Playing
  pub right_mode : (i : ℕ) (d : Desk) → is_playing d.position.game ≡ false → Same (right_click B i (in_mode m d)) (right_click B i (by_hand d))
  unfolding right_click passes_after_flag
  right_mode i d g = rw g (pick_two Same (closed_at d.shown i) refl (back_mode i (add_right d)))

  dce_mode : (o : Play) → Same (add_dce (played m o)) (add_dce o)
  dce_mode o = pick_two Same (eqb o.answer 0) refl refl

-- CHORD by hand in mode 0 is the chord with its counts
chord_by_hand : (B : List ℤ) (i : ℕ) (d : Desk) → (chording_click B i (by_hand d)).desk ≡ (add_dce (perform_chord B i (add_double (by_hand d)))).desk
unfolding chording_click
chord_by_hand B i d =
    let o : Play = perform_chord B i (add_double (by_hand d)) in
    let same : add_dce o ≡ played 0 (add_dce o) = ap add_dce (chord_mode B 0 i (add_double d)) ∙ dce_mode B 0 o in
    no_chords B (add_dce o).desk (ap (λ (p : Play). p.desk.position.settings.mode) same)

pub chord_passed : (B : List ℤ) (m i : ℕ) (d : Desk) → Passed B m (chording_click B i (in_mode m d)) (chording_click B i (by_hand d))
unfolding chording_click
chord_passed B m i d =
    after_chord
    (ap (λ (p : Play). passes_after_chord B p.desk) (ap add_dce (chord_mode B m i (add_double d)) ∙ dce_mode B m (perform_chord B i (add_double (by_hand d))))
    ∙ ap (λ (e : Desk). passes_after_chord B (in_mode m e)) (sym (chord_by_hand B i d)))
