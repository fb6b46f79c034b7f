-- An event and a call by hand with the passes that follow: what the hand itself leaves is lawful, and what the passes add is harmless.
use Rattle.std.specs.Prelude.{Option, Some, None}
use mathlib.Core.Path.{◌≡◌, ◌∙◌, ap, refl, subst⁻¹}
use mathlib.Core.Bool.{Bool, true, false, ◌&&◌}
use mathlib.Core.List.{List}
use Prim.Native.Nat.{ℕ}
use lib.Dec.{leb, eqb}
use lib.IntN.{ℤ}
use Rattle.rules.specs.declared.Settings.{Settings}
use Rattle.rules.specs.declared.Pointer.{Pointer}
use Rattle.rules.specs.Words.{pick, unless}
use Rattle.rules.specs.States.{with_middle}
use Rattle.rules.specs.Board.{board_refusal}
use Rattle.rules.specs.Clicks.{Desk, Play, done, on}
use Rattle.rules.specs.Mouse.{flipped}
use Rattle.rules.specs.Step.{by_game, pointer_of, plain_of, refusal_at, play_at, step_at, step_by_of, step_on, plain_code, plain_on}
use Rattle.rules.specs.Lawful.{lawful_refusal}
use Rattle.rules.specs.Calls.{Outcome, left_by, boards_fit, work_fits, mode_ok, settings_refusal, position_refusal, lent_refusal, refused, accepted, step_of}
use Rattle.rules.specs.Opening.{opened_in}
use Rattle.cells.proofs.Words.{pick_both}
use Rattle.keep.specs.Kept.{LawfulAt}
use Rattle.keep.proofs.Lawful.{lawful_rules, kept_lawful, passed_lawful, lawful_passes, settings_accepted, check_lawful, lent_lawful}
use Rattle.keep.proofs.Step.{step_follows}
use Rattle.harmless.specs.Harmless.{Fair, Right, stays, Harmless}
use Rattle.harmless.specs.Hands.{by_hand, AddsNoHarm, HandsHarmless}
use Rattle.harmless.proofs.Spared.{playing_not_lost}
use Rattle.harmless.proofs.Harmless.{kept_fair}
use Rattle.harmless.proofs.Modes.{pick_two, no_flags, no_chords}
use Rattle.harmless.proofs.Events.{event_blind, refusal_blind}
use Rattle.harmless.proofs.Clicks.{flag_on_a_mine, chord_in_a_right_game, mode_lawful, passed_harmless, right_click_harmless, chording_click_harmless}

-- ---- a step ------------------------------------------------------------------------------------------------------------------------------

module _ (B : List ℤ) (code : ℕ) (d : Desk) where
  -- what was done in mode 0 left a fair desk, and a right one without question marks: nothing of that reads the events
  play_harmless : (x : Pointer) → Fair B (play_at B code x (by_hand d)).desk → AddsNoHarm B (play_at B code x (by_hand d)).desk (play_at B code x d).desk
  unfolding play_at plain_of
  play_harmless x f r q =
      let e : Desk = on d (with_middle d.position (flipped code d.position.middle)) in
      let o : Play = by_game d.position.game B (plain_of code x d) e in
      let o' : Play = by_game d.position.game B (plain_of code x d) (by_hand e) in
      let h = passed_harmless B d.position.settings.mode o'.desk (record { board = f.board; size = f.size; numbers = f.numbers; cells = f.cells })
      (record { playing = r.playing; flags = r.flags }) q o o'.answer (event_blind B d.position.settings.mode d.position.game (plain_of code x d) e refl) in
      record { cells = h.cells; flags = h.flags; game = h.game }

  -- a refused event leaves the desk
  refused_harmless : Right B (by_hand d) → Harmless B (by_hand d) d
  refused_harmless r = record { cells = λ j. stays refl; flags = r.flags; game = playing_not_lost d.position.game r.playing }

  -- a play, and the same in mode 0
  abbrev Done : Play → Play → Type 0
  Done o o' = Fair B o'.desk → AddsNoHarm B o'.desk o.desk

  step_at_lem : (x : Pointer) → Done (step_at B code x d) (step_at B code x (by_hand d))
  unfolding step_at
  step_at_lem x =
      subst⁻¹ (λ (n : ℕ). Done (pick (eqb n 0) (play_at B code x d) (done n d)) (step_at B code x (by_hand d))) (refusal_blind d.position.settings.mode code x d)
      (pick_two Done (eqb (refusal_at code x (by_hand d)) 0) (play_harmless x) (λ _ r _. refused_harmless r))

  step_by : (p : Option Pointer) → Done (step_by_of B code p d) (step_by_of B code p (by_hand d))
  unfolding step_by_of
  step_by (Some x) = step_at_lem x
  step_by None = λ _ r _. refused_harmless r

-- THE step, accepted or refused
pub step_harmless : (B : List ℤ) (code r c : ℕ) (d : Desk) → LawfulAt B d → AddsNoHarm B (step_on B code r c (by_hand d)).desk (step_on B code r c d).desk
unfolding step_on pointer_of
step_harmless B code r c d l =
    step_by B code d (pointer_of d.position.settings r c)
    (kept_fair _ B (step_on B code r c (by_hand d)).desk (step_follows B code r c (by_hand d) (mode_lawful _ l)).lawful.kept)

-- ---- a call ------------------------------------------------------------------------------------------------------------------------------

-- what comes after a test that is passed
pick_rest : (t : Bool) (x y n : ℕ) → y ≡ 0 → pick t x n ≡ 0 → pick t y n ≡ 0
pick_rest true x y n z e = z
pick_rest false x y n z e = e

-- a call that 20 to 264 do not refuse they do not refuse in mode 0
lent_by_hand : (B : List ℤ) (d : Desk) (work : List ℕ) → lent_refusal B d work ≡ 0 → lent_refusal B (by_hand d) work ≡ 0
unfolding lent_refusal position_refusal settings_refusal boards_fit work_fits mode_ok
lent_by_hand B d work e =
    let s : Settings = d.position.settings in
    let fit : Bool = boards_fit s B d.shown d.bits && work_fits s work in
    let law = passed_lawful B d (settings_accepted s fit B (lawful_refusal B d) e).2 in
    pick_rest (eqb (board_refusal s.rows s.columns fit B) 0) (unless 25 (mode_ok s.mode) (lawful_refusal B d)) (lawful_refusal B (by_hand d))
    (board_refusal s.rows s.columns fit B) (lawful_passes B (by_hand d) (kept_lawful B (by_hand d) (mode_lawful _ (lent_lawful B d work e)) (lawful_rules B d law))) e

-- what such a call leaves is what its event leaves
call_leaves : (B : List ℤ) (code r c : ℕ) (d : Desk) (work : List ℕ) → lent_refusal B d work ≡ 0 → left_by (step_of B code r c d work) ≡ (plain_on B code r c d).desk
unfolding step_of
call_leaves B code r c d work e =
    let o : Play = plain_on B code r c d in
    rw e
    (pick_both (λ (x : Outcome). left_by x ≡ o.desk) (leb 20 o.answer) (refused o.answer o.desk work)
    (accepted o.answer (opened_in d.shown o.desk.shown) o.desk work) (λ _. refl) (λ _. refl))

call_harmless : (B : List ℤ) (code r c : ℕ) (d : Desk) (work : List ℕ) (o hand : Outcome) → o ≡ step_of B code r c d work → hand ≡ step_of B code r c (by_hand d) work
    → lent_refusal B d work ≡ 0 → AddsNoHarm B (left_by hand) (left_by o)
call_harmless B code r c d work o hand s t e =
    subst⁻¹ (λ (h : Desk). AddsNoHarm B h (left_by o)) (ap left_by t ∙ call_leaves B code r c (by_hand d) work (lent_by_hand B d work e))
    (subst⁻¹ (AddsNoHarm B (plain_on B code r c (by_hand d)).desk) (ap left_by s ∙ call_leaves B code r c d work e) (step_harmless B (plain_code code) r c d (lent_lawful B d work e)))

-- THEOREM: after the hand's own action the passes are harmless
pub hands_harmless : HandsHarmless
hands_harmless = record {
  no_flags = λ B d. no_flags B (by_hand d) refl;
  no_chords = λ B d. no_chords B (by_hand d) refl;
  right_click_lem = right_click_harmless;
  chording_click_lem = chording_click_harmless;
  step = λ B code r c d e. step_harmless B code r c d (check_lawful B d e);
  call = call_harmless;
  flag_on_a_mine = flag_on_a_mine;
  chord_in_a_right_game = chord_in_a_right_game;
}
