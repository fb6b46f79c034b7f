-- A click by hand with the passes that follow: in a right game, and where the hand's own action left one. What is done in mode m is what the hand itself
-- does and then the passes of mode m; nothing that is fair or kept reads the mode.
use mathlib.Core.Path.{◌≡◌, refl, subst, subst⁻¹}
use mathlib.Core.Bool.{Bool, true, false}
use mathlib.Core.List.{List}
use Prim.Native.Nat.{ℕ, ◌<◌}
use native.Mathlib.Omega.{arith}
use lib.Dec.{eqb}
use lib.IntN.{ℤ}
use lib.ListN.{length, length-set}
use Rattle.rules.specs.declared.Settings.{Settings}
use Rattle.rules.specs.declared.GameState.TheVariants.{Playing}
use Rattle.rules.specs.Words.{pick}
use Rattle.rules.specs.States.{is_playing}
use Rattle.rules.specs.Board.{mine_at}
use Rattle.rules.specs.Opening.{closed_at}
use Rattle.rules.specs.Clicks.{Desk, Play, done, on, flagged, add_right, take_back, perform_chord}
use Rattle.rules.specs.Passes.{mode_both, passes_after_flag, passes_after_chord, right_click, add_double, add_dce, chording_click}
use Rattle.cells.proofs.Words.{pick_both}
use Rattle.keep.specs.Kept.{Kept, LawfulAt}
use Rattle.keep.proofs.Moves.{phase_in}
use Rattle.keep.proofs.Passes.{playing_is, right_live, chording_live}
use Rattle.harmless.specs.Harmless.{Fair, Right, NoQuestions, Harmless}
use Rattle.harmless.specs.Hands.{in_mode, by_hand, AddsNoHarm}
use Rattle.harmless.proofs.Spared.{harmless_by, playing_not_lost, spared_question, Calm, calm_on, calm_none}
use Rattle.harmless.proofs.Numbers.{Honest, honest_by, honest_after}
use Rattle.harmless.proofs.Flags.{flag_spares}
use Rattle.harmless.proofs.Chords.{chord_calm}
use Rattle.harmless.proofs.Harmless.{kept_fair, after_flag_calm, after_chord_calm}
use Rattle.harmless.proofs.Modes.{Passed, none, after_flag, after_chord, right_passed, chord_passed}

-- ---- in a right game ---------------------------------------------------------------------------------------------------------------------

-- a flag by hand on a mine
pub flag_on_a_mine : (B : List ℤ) (i : ℕ) (d : Desk) → Fair B d → Right B d → NoQuestions d → closed_at d.shown i ≡ true → mine_at B i ≡ true
    → Harmless B d (right_click B i d).desk
unfolding right_click
flag_on_a_mine B i d f r q e m =
    let t = honest_by f r.playing in
    let own : Calm B d (flagged B i (add_right d)) = record {
      harmless = harmless_by t.valued r.flags (flag_spares B i d.shown m e) (playing_not_lost d.position.game r.playing);
      settings = refl;
      long = length-set d.shown i 11;
    } in
    let c = after_flag_calm B (flagged B i (add_right d)) (honest_after t own) (record { playing = r.playing; flags = own.harmless.flags })
    (λ j h. q j (spared_question t.valued (own.harmless.cells j) h)) in
    subst⁻¹ (λ (b : Bool). Harmless B d (pick b (done 1 (passes_after_flag B (flagged B i (add_right d)))) (take_back i (add_right d))).desk) e
    (calm_on t.valued own c).harmless

-- no pass where the game is over
over_chord : (B : List ℤ) (d : Desk) → is_playing d.position.game ≡ false → passes_after_chord B d ≡ d
unfolding passes_after_chord
over_chord B d e = rw e

module _ (B : List ℤ) (i : ℕ) (d : Desk) (f : Fair B d) (r : Right B d) where
  -- the chord itself, with its counts
  own_chord : i < length d.shown → Calm B d (add_dce (perform_chord B i (add_double d))).desk
  own_chord lt =
      let o : Play = perform_chord B i (add_double d) in
      let c = chord_calm B i (add_double d) (honest_by f r.playing) (record { playing = r.playing; flags = r.flags }) lt in
      let h = c.harmless in
      pick_both (λ (p : Play). Calm B d p.desk) (eqb o.answer 0) o _
      (λ _. record { harmless = record { cells = h.cells; flags = h.flags; game = h.game }; settings = c.settings; long = c.long })
      (λ _. record { harmless = record { cells = h.cells; flags = h.flags; game = h.game }; settings = c.settings; long = c.long })

  -- a chord by hand
  pub chord_in_a_right_game : (mode_both d.position.settings.mode ≡ true → NoQuestions d) → i < length d.shown → Harmless B d (chording_click B i d).desk
  unfolding chording_click
  chord_in_a_right_game q lt = go (is_playing e.position.game) refl
    where
      e : Desk
      e = (add_dce (perform_chord B i (add_double d))).desk

      own : Calm B d e
      own = own_chord lt

      t : Honest B d.position.settings d.shown
      t = honest_by f r.playing

      go : (b : Bool) → is_playing e.position.game ≡ b → Harmless B d (passes_after_chord B e)
      go true g =
          (calm_on t.valued own
          (after_chord_calm B e (honest_after t own) (record { playing = playing_is e.position.game g; flags = own.harmless.flags })
          (λ m j h. q (subst (λ (s : Settings). mode_both s.mode ≡ true) own.settings m) j (spared_question t.valued (own.harmless.cells j) h)))).harmless
      go false g = subst⁻¹ (Harmless B d) (over_chord B e g) own.harmless

-- ---- after the hand's own action ---------------------------------------------------------------------------------------------------------

-- nothing that is fair or kept reads the mode
mode_fair : {B : List ℤ} {d : Desk} (m : ℕ) → Fair B d → Fair B (in_mode m d)
mode_fair m f = record { board = f.board; size = f.size; numbers = f.numbers; cells = f.cells }

mode_kept : {n : ℕ} {B : List ℤ} {d : Desk} (m : ℕ) → Kept n B d → Kept n B (in_mode m d)
mode_kept m h =
    let s = h.sound in
    let g = s.ground in
    record {
      sound = record {
        ground = record { mined = g.mined; numbers = g.numbers; board = g.board; room = g.room };
        bounded = s.bounded;
        double = s.double;
        solved = s.solved;
        flag = s.flag;
        unopened = s.unopened;
        wrong = s.wrong;
        cells = s.cells;
        mines = s.mines;
      };
      preflags = h.preflags;
      held = h.held;
      phase = h.phase;
    }

pub mode_lawful : {B : List ℤ} {d : Desk} (m : ℕ) → LawfulAt B d → LawfulAt B (in_mode m d)
mode_lawful m l = record { kept = mode_kept m l.kept; few = l.few }

-- the passes of mode m after a hand that leaves desk h
module _ (B : List ℤ) (m : ℕ) (h : Desk) (f : Fair B h) (r : Right B h) (q : NoQuestions h) where
  honest : Honest B (in_mode m h).position.settings h.shown
  honest = honest_by (mode_fair m f) r.playing

  right : Right B (in_mode m h)
  right = record { playing = r.playing; flags = r.flags }

  from_hand : {e : Desk} → Calm B (in_mode m h) e → Harmless B h e
  from_hand c = let a = c.harmless in record { cells = a.cells; flags = a.flags; game = a.game }

  pub passed_harmless : (o : Play) (n : ℕ) → Passed B m o (done n h) → Harmless B h o.desk
  passed_harmless o n (none e) = subst⁻¹ (Harmless B h) e (from_hand (calm_none right))
  passed_harmless o n (after_flag e) = subst⁻¹ (Harmless B h) e (from_hand (after_flag_calm B (in_mode m h) honest right q))
  passed_harmless o n (after_chord e) = subst⁻¹ (Harmless B h) e (from_hand (after_chord_calm B (in_mode m h) honest right (λ _. q)))

module _ (n : ℕ) (B : List ℤ) (i : ℕ) (d : Desk) (k : Kept n B d) (g : d.position.game ≡ Playing) where
  pub right_click_harmless : i < length d.shown → AddsNoHarm B (right_click B i (by_hand d)).desk (right_click B i d).desk
  right_click_harmless lt r q =
      let o' : Play = right_click B i (by_hand d) in
      let k₀ : Kept n B (by_hand d) = mode_kept _ k in
      let l = right_live n B i (by_hand d) g k₀.sound k₀.preflags (phase_in Playing g k₀) lt in
      passed_harmless B d.position.settings.mode o'.desk (kept_fair _ B o'.desk l.kept) r q
      (right_click B i d) o'.answer (right_passed B d.position.settings.mode i d)

  pub chording_click_harmless : AddsNoHarm B (chording_click B i (by_hand d)).desk (chording_click B i d).desk
  chording_click_harmless r q =
      let o' : Play = chording_click B i (by_hand d) in
      let l = chording_live n B i (by_hand d).position.settings (by_hand d) g (record { kept = mode_kept _ k; settings = refl; told = λ e. let z : ◌≡◌ {A = ℕ} 0 1 = cc in absurd (omega arith) }) in
      passed_harmless B d.position.settings.mode o'.desk (kept_fair _ B o'.desk l.kept) r q
      (chording_click B i d) o'.answer (chord_passed B d.position.settings.mode i d)
