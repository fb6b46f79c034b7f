-- Both passes by turns, and what follows a flag and a chord: each turn begins with a right game again, or the game is over.
use mathlib.Core.Path.{◌≡◌, ◌∙◌, ap, refl, sym}
use mathlib.Core.Bool.{Bool, true, false, false≢true}
use mathlib.Core.List.{List}
use Prim.Native.Nat.{ℕ, ◌<◌}
use native.Mathlib.Omega.{arith}
use native.Mathlib.Decide.{dec_lt}
use lib.IntN.{ℤ}
use lib.ListN.{length, get_or, get_or-eq_default}
use Rattle.rules.specs.declared.Position.{Position}
use Rattle.rules.specs.declared.GameState.TheVariants.{Playing}
use Rattle.rules.specs.States.{is_loss, is_playing}
use Rattle.rules.specs.Board.{face_at}
use Rattle.rules.specs.Clicks.{Desk, cells_of}
use Rattle.rules.specs.Passes.{Round, found_any, flag_pass, chord_pass, both_round, both_pass, mode_both, mode_flag, mode_chord, passes_after_flag, passes_after_chord}
use Rattle.rules.specs.Lawful.{cell_lawful}
use Rattle.rules.specs.Calls.{position_check}
use Rattle.cells.proofs.Words.{and_right, pick_both}
use Rattle.flagging.proofs.Flagging.{even_all}
use Rattle.flagging.proofs.OneScan.{found, flag_pass_once}
use Rattle.keep.specs.Kept.{Kept}
use Rattle.keep.proofs.Lawful.{check_lawful}
use Rattle.keep.proofs.Passes.{playing_is, rounds_lead}
use Rattle.harmless.specs.Harmless.{Fair, Right, NoQuestions, Harmless, PassesHarmless, NeverLoses}
use Rattle.harmless.proofs.Spared.{spared_question, harmless_by, playing_not_lost, Calm, calm_on, calm_none}
use Rattle.harmless.proofs.Numbers.{Honest, honest_by, honest_after}
use Rattle.harmless.proofs.Flags.{flag_pass_spares}
use Rattle.harmless.proofs.Chords.{chord_pass_calm}

-- ---- what is asked -----------------------------------------------------------------------------------------------------------------------

pub kept_fair : (n : ℕ) (B : List ℤ) (d : Desk) → Kept n B d → Fair B d
kept_fair n B d k = let g = k.sound.ground in record { board = g.mined; size = g.board; numbers = g.numbers; cells = k.sound.cells }

pub lawful_fair : (B : List ℤ) (d : Desk) → position_check B d ≡ 0 → Fair B d
lawful_fair B d e = kept_fair d.position.events B d (check_lawful B d e).kept

-- a question mark is lawful only where they are on
question_lawful : (q loss : Bool) (f : ℕ) → cell_lawful q loss f 17 ≡ q
unfolding cell_lawful
question_lawful q loss f = refl

pub off_none : (B : List ℤ) (d : Desk) → Fair B d → d.position.settings.question ≡ false → NoQuestions d
off_none B d f q i e = go (dec_lt i (length d.shown))
  where
    go : Dec (i < length d.shown) → ⊥
    go (yes lt) =
        false≢true (sym q ∙ sym (question_lawful d.position.settings.question (is_loss d.position.game) (face_at B i))
        ∙ ap (cell_lawful d.position.settings.question (is_loss d.position.game) (face_at B i)) (sym e) ∙ f.cells i lt)
    go (no ge) = let z : get_or d.shown i 0 ≡ 0 = get_or-eq_default d.shown 0 (omega arith) in omega arith

-- ---- the passes --------------------------------------------------------------------------------------------------------------------------

-- THE flag pass of a right game
flag_pass_calm : (B : List ℤ) (d : Desk) → Honest B d.position.settings d.shown → Right B d → NoQuestions d → Calm B d (flag_pass B d)
flag_pass_calm B d t r q =
    let once = flag_pass_once B d in
    let even = even_all B (found B d) d in
    record {
      harmless =
          harmless_by t.valued r.flags (flag_pass_spares B d t q)
          (playing_not_lost _ (ap (λ (e : Desk). e.position.game) once ∙ ap (λ (p : Position). p.game) even.only ∙ r.playing));
      settings = ap (λ (e : Desk). e.position.settings) once ∙ ap (λ (p : Position). p.settings) even.only;
      long = ap (λ (e : Desk). length e.shown) once ∙ even.board;
    }

module _ (B : List ℤ) (d : Desk) (t : Honest B d.position.settings d.shown) (q : NoQuestions d) where
  -- before a turn
  Before : Round → Type 0
  Before u = Calm B d u.desk × (u.desk.position.game ≡ Playing)

  -- after a turn: one that says that there is more to do is still Playing
  After : Round → Type 0
  After u = Calm B d u.desk × (u.any ≡ true → u.desk.position.game ≡ Playing)

  turn : (u : Round) → Before u → After (both_round B u)
  unfolding Before After both_round
  turn u b =
      let c = b.0 in
      let f = flag_pass_calm B u.desk (honest_after t c) (record { playing = b.1; flags = c.harmless.flags })
      (λ i e. q i (spared_question t.valued (c.harmless.cells i) e)) in (
        chord_pass_calm B d t (flag_pass B u.desk) (calm_on t.valued c f),
        λ e. playing_is _ (and_right (chord_pass B (flag_pass B u.desk)).ever _ e),
      )

  both_pass_calm : Right B d → Calm B d (both_pass B d)
  unfolding both_pass Before After
  both_pass_calm r =
      (rounds_lead (both_round B) found_any Before After turn (λ u a m. (a.0, a.1 m)) (cells_of d) (record { desk = d; any = true }) (calm_none r, r.playing)).0

-- what follows a flag and a chord by hand
pub after_flag_calm : (B : List ℤ) (d : Desk) → Honest B d.position.settings d.shown → Right B d → NoQuestions d → Calm B d (passes_after_flag B d)
unfolding passes_after_flag
after_flag_calm B d t r q =
    pick_both (Calm B d) (is_playing d.position.game) _ d
    (λ _. pick_both (Calm B d) (mode_both d.position.settings.mode) (both_pass B d) _ (λ _. both_pass_calm B d t q r)
    (λ _. pick_both (Calm B d) (mode_flag d.position.settings.mode) (flag_pass B d) d (λ _. flag_pass_calm B d t r q) (λ _. calm_none r)))
    (λ _. calm_none r)

pub after_chord_calm : (B : List ℤ) (d : Desk) → Honest B d.position.settings d.shown → Right B d → (mode_both d.position.settings.mode ≡ true → NoQuestions d)
    → Calm B d (passes_after_chord B d)
unfolding passes_after_chord
after_chord_calm B d t r q =
    pick_both (Calm B d) (is_playing d.position.game) _ d
    (λ _. pick_both (Calm B d) (mode_both d.position.settings.mode) (both_pass B d) _ (λ e. both_pass_calm B d t (q e) r)
    (λ _. pick_both (Calm B d) (mode_chord d.position.settings.mode) (chord_pass B d).desk d (λ _. chord_pass_calm B d t d (calm_none r)) (λ _. calm_none r)))
    (λ _. calm_none r)

-- THEOREM: the automatic passes are harmless
pub passes_harmless : PassesHarmless
passes_harmless = record {
  flag_pass_lem = λ B d f r q. (flag_pass_calm B d (honest_by f r.playing) r q).harmless;
  chord_pass_lem = λ B d f r. (chord_pass_calm B d (honest_by f r.playing) d (calm_none r)).harmless;
  both_pass_lem = λ B d f r q. (both_pass_calm B d (honest_by f r.playing) q r).harmless;
  after_flag = λ B d f r q. (after_flag_calm B d (honest_by f r.playing) r q).harmless;
  after_chord = λ B d f r q. (after_chord_calm B d (honest_by f r.playing) r q).harmless;
  flag_pass_cells = λ B d f g q. flag_pass_spares B d (honest_by f g) q;
  lawful = lawful_fair;
  amid = kept_fair;
  off = off_none;
}

-- THEOREM: with question marks off the passes never lose a game that was right
pub never_loses : NeverLoses
never_loses n B d k g q f =
    let fair = kept_fair n B d k in
    let r : Right B d = record { playing = g; flags = f } in
    let none = off_none B d fair q in
    (passes_harmless.after_flag B d fair r none, passes_harmless.after_chord B d fair r (λ _. none))
