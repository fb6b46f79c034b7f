-- The automatic passes keep the position at the same bound; the right click and the chord by hand, with the passes that follow them, keep it at the next.
use mathlib.Core.Path.{◌≡◌, ◌∙◌, refl, subst⁻¹}
use mathlib.Core.Bool.{Bool, true, false, false≢true}
use mathlib.Core.List.{List, [], ◌∷◌}
use Prim.Native.Nat.{ℕ, zero, suc, ◌+◌, ◌<◌, ◌≤◌}
use native.Mathlib.Omega.{arith}
use borrow.Author.Tests.{eqb-true}
use lib.Dec.{eqb}
use lib.IntN.{ℤ}
use lib.ListN.{length, get_or, set}
use Rattle.rules.specs.declared.Settings.{Settings}
use Rattle.rules.specs.declared.GameState.{GameState}
use Rattle.rules.specs.declared.GameState.TheVariants.{Ready, Playing, Win, Loss, PreFlaging}
use Rattle.rules.specs.Words.{pick, rounds}
use Rattle.rules.specs.States.{is_loss, is_not_flag, is_playing, with_flag, with_dce}
use Rattle.rules.specs.Board.{face_at}
use Rattle.rules.specs.Opening.{closed_at, count_shown, is_open}
use Rattle.rules.specs.Clicks.{Desk, Play, desk, done, on, rows_of, columns_of, cells_of, add_right, bits_with, flagged, take_back, perform_chord}
use Rattle.rules.specs.Passes.{listed, flag_one, flag_all, Round, flag_round, found_any, flag_pass, Scan, noted, chord_one, chord_scan, chord_round, chord_more, chord_pass, both_round, both_pass, mode_both, mode_flag, mode_chord, passes_after_flag, passes_after_chord, right_click, add_double, add_dce, chording_click}
use Rattle.rules.specs.Lawful.{is_won}
use Rattle.cells.proofs.Words.{and_right, pick_both, rounds_keep}
use Rattle.opening.proofs.Cases.{closed_in}
use Rattle.keep.specs.Kept.{SoundAt, Phase, Live}
use Rattle.keep.proofs.Moves.{recount, phase_in, double_counts}
use Rattle.keep.proofs.Reshow.{hidden, reshow, flag_lawful, bits_length, bits_mines, bit_in}
use Rattle.keep.proofs.Right.{RightDone, hidden_won, right_flags, right_takes_back}
use Rattle.keep.proofs.Chord.{chord_done, chord_shut}

-- what the rounds leave, where a step leads from P to Q and one that says that there is more to do leads back to P
pub rounds_lead : {A : Type 0} (step : A → A) (more : A → Bool) (P Q : A → Type 0) → ((s : A) → P s → Q (step s)) → ((t : A) → Q t → more t ≡ true → P t)
    → (f : ℕ) (s : A) → P s → Q (rounds step more (suc f) s)
unfolding rounds
rounds_lead step more P Q k back zero s p = pick_both Q (more (step s)) (step s) (step s) (λ e. k s p) (λ e. k s p)
rounds_lead step more P Q k back (suc f) s p =
    pick_both Q (more (step s)) (rounds step more (suc f) (step s)) (step s) (λ e. rounds_lead step more P Q k back f (step s) (back (step s) (k s p) e)) (λ e. k s p)

pub playing_is : (g : GameState) → is_playing g ≡ true → g ≡ Playing
playing_is Ready e = absurd (false≢true e)
playing_is Playing e = refl
playing_is Win e = absurd (false≢true e)
playing_is Loss e = absurd (false≢true e)
playing_is PreFlaging e = absurd (false≢true e)

-- a live desk that is Playing
pub record Running (n : ℕ) (B : List ℤ) (s : Settings) (d : Desk) : Type 0 where
  pub live : Live n B s d
  pub game : d.position.game ≡ Playing

-- Playing with a safe cell left, whatever the mouse
pub running_by : {n : ℕ} {B : List ℤ} {s : Settings} {d : Desk} → d.position.game ≡ Playing
    → SoundAt n B d → d.position.preflags ≤ n → (is_not_flag d.position.mouse ≡ true → 1 ≤ d.position.counts.right) → is_won B d.shown ≡ false
    → d.position.settings ≡ s → Running n B s d
running_by {n} {B} {s} {d} g h p r w es = record {
  live = record {
    kept = record {
      sound = h;
      preflags = p;
      held = r;
      phase = subst⁻¹ (λ (g : GameState). Phase g d.position.mouse d.position.preflags B d.shown) g w;
    };
    settings = es;
    told = λ l. let z : ◌≡◌ {A = ℕ} 0 1 = cc in absurd (omega arith);
  };
  game = g;
}

module _ (n : ℕ) (B : List ℤ) (s : Settings) where
  -- ---- the flag pass

  flag_new : (i : ℕ) (d : Desk) → closed_at d.shown i ≡ true → Running n B s d
      → Running n B s (desk (with_flag d.position (d.position.counts.flag + 1)) (set d.shown i 11) (bits_with B d.bits i))
  flag_new i d e r =
      let h = r.live.kept.sound in
      let lt = closed_in d.shown i e in
      let ten = eqb-true (get_or d.shown i 0) 10 e in
      running_by r.game
      (reshow i 10 11 lt ten (hidden 10 refl) (hidden 11 refl)
      (record {
        bounded = let b = h.bounded in omega arith;
        double = omega arith;
        solved = refl;
        flag = omega arith;
        unopened = refl;
        here = flag_lawful d.position.settings.question (is_loss d.position.game) (face_at B i);
        room = bits_length B d.bits i;
        mines = bits_mines B d.bits i (bit_in h.ground i lt) h.mines;
      })
      h)
      r.live.kept.preflags r.live.kept.held
      (hidden_won B d.shown i 10 11 lt ten (hidden 10 refl) (hidden 11 refl) ∙ phase_in Playing r.game r.live.kept)
      r.live.settings

  pub flag_one_live : (i : ℕ) (d : Desk) → Running n B s d → Running n B s (flag_one B i d)
  unfolding flag_one
  flag_one_live i d r =
      pick_both (Running n B s) (closed_at d.shown i) (desk (with_flag d.position (d.position.counts.flag + 1)) (set d.shown i 11) (bits_with B d.bits i)) d
      (λ e. flag_new i d e r) (λ e. r)

  pub flag_all_live : (st : List ℕ) (d : Desk) → Running n B s d → Running n B s (flag_all B st d)
  unfolding flag_all
  flag_all_live [] d r = r
  flag_all_live (i ∷ st) d r = flag_one_live i (flag_all B st d) (flag_all_live st d r)

  pub flag_round_live : (t : Round) → Running n B s t.desk → Running n B s (flag_round B t).desk
  unfolding flag_round
  flag_round_live t r = flag_all_live (listed (rows_of t.desk) (columns_of t.desk) t.desk.shown (cells_of t.desk)) t.desk r

  pub flag_pass_live : (d : Desk) → Running n B s d → Running n B s (flag_pass B d)
  unfolding flag_pass
  flag_pass_live d r = rounds_keep (flag_round B) found_any (λ t. Running n B s t.desk) flag_round_live (suc (cells_of d)) (record { desk = d; any = true }) r

  -- ---- the chord pass

  noted_live : (t : Scan) (o : Play) → Live n B s t.desk → Live n B s o.desk → Live n B s (noted t o).desk
  noted_live t o a b = pick_both (λ (u : Scan). Live n B s u.desk) (eqb o.answer 0) t (record { desk = o.desk; any = true; ever = true }) (λ _. a) (λ _. b)

  pub chord_one_live : (i : ℕ) (t : Scan) → Live n B s t.desk → Live n B s (chord_one B i t).desk
  unfolding chord_one
  chord_one_live i t l =
      pick_both (λ (u : Scan). Live n B s u.desk) (is_playing t.desk.position.game) (noted t (perform_chord B i t.desk)) t
      (λ e. noted_live t (perform_chord B i t.desk) l (chord_done n B i s t.desk (playing_is t.desk.position.game e) l).live) (λ e. l)

  pub chord_scan_live : (m : ℕ) (t : Scan) → Live n B s t.desk → Live n B s (chord_scan B m t).desk
  unfolding chord_scan
  chord_scan_live zero t l = l
  chord_scan_live (suc m) t l = chord_one_live m (chord_scan B m t) (chord_scan_live m t l)

  pub chord_round_live : (t : Scan) → Live n B s t.desk → Live n B s (chord_round B t).desk
  unfolding chord_round
  chord_round_live t l = chord_scan_live (cells_of t.desk) (record { desk = t.desk; any = false; ever = t.ever }) l

  pub chord_pass_live : (d : Desk) → Live n B s d → Live n B s (chord_pass B d).desk
  unfolding chord_pass
  chord_pass_live d l =
      rounds_keep (chord_round B) chord_more (λ t. Live n B s t.desk) chord_round_live (suc (cells_of d)) (record { desk = d; any = false; ever = false }) l

  -- ---- both by turns, and what follows a flag and a chord

  pub both_round_live : (t : Round) → Running n B s t.desk → Live n B s (both_round B t).desk
  unfolding both_round
  both_round_live t r = chord_pass_live (flag_pass B t.desk) (flag_pass_live t.desk r).live

  -- a round that says that there is more to do is still Playing
  Going : Round → Type 0
  Going t = Live n B s t.desk × (t.any ≡ true → t.desk.position.game ≡ Playing)

  going_round : (t : Round) → Running n B s t.desk → Going (both_round B t)
  unfolding Going both_round
  going_round t r = (
    both_round_live t r,
    λ e. playing_is _ (and_right (chord_pass B (flag_pass B t.desk)).ever _ e),
  )

  pub both_pass_live : (d : Desk) → Running n B s d → Live n B s (both_pass B d)
  unfolding both_pass Going
  both_pass_live d r =
      (rounds_lead (both_round B) found_any (λ t. Running n B s t.desk) Going going_round (λ t q e. record { live = q.0; game = q.1 e }) (cells_of d)
      (record { desk = d; any = true }) r).0

  pub after_flag_live : (d : Desk) → Live n B s d → Live n B s (passes_after_flag B d)
  unfolding passes_after_flag
  after_flag_live d l =
      pick_both (Live n B s) (is_playing d.position.game)
      (pick (mode_both d.position.settings.mode) (both_pass B d) (pick (mode_flag d.position.settings.mode) (flag_pass B d) d)) d
      (λ g.
      let r : Running n B s d = record { live = l; game = playing_is d.position.game g } in
      pick_both (Live n B s) (mode_both d.position.settings.mode) (both_pass B d) (pick (mode_flag d.position.settings.mode) (flag_pass B d) d)
      (λ _. both_pass_live d r)
      (λ _. pick_both (Live n B s) (mode_flag d.position.settings.mode) (flag_pass B d) d (λ _. (flag_pass_live d r).live) (λ _. l)))
      (λ _. l)

  pub after_chord_live : (d : Desk) → Live n B s d → Live n B s (passes_after_chord B d)
  unfolding passes_after_chord
  after_chord_live d l =
      pick_both (Live n B s) (is_playing d.position.game)
      (pick (mode_both d.position.settings.mode) (both_pass B d) (pick (mode_chord d.position.settings.mode) (chord_pass B d).desk d)) d
      (λ g.
      pick_both (Live n B s) (mode_both d.position.settings.mode) (both_pass B d) (pick (mode_chord d.position.settings.mode) (chord_pass B d).desk d)
      (λ _. both_pass_live d (record { live = l; game = playing_is d.position.game g }))
      (λ _. pick_both (Live n B s) (mode_chord d.position.settings.mode) (chord_pass B d).desk d (λ _. chord_pass_live d l) (λ _. l)))
      (λ _. l)

-- ---- by hand ---------------------------------------------------------------------------------------------------------------------------

-- what a right click leaves of a desk that is Playing, whatever the mouse
right_running : {n : ℕ} {B : List ℤ} {x : ℕ} {d e : Desk} → RightDone n B x d e → d.position.game ≡ Playing → d.position.preflags ≤ n → is_won B d.shown ≡ false
    → Running (suc n) B d.position.settings e
right_running r g p w =
    running_by (r.game ∙ g) r.sound (let a = r.preflags in omega arith) (λ _. let a = r.right in omega arith) (r.won ∙ w) r.settings

-- RIGHT, while Playing
pub right_live : (n : ℕ) (B : List ℤ) (i : ℕ) (d : Desk) → d.position.game ≡ Playing → SoundAt n B d → d.position.preflags ≤ n → is_won B d.shown ≡ false
    → i < length d.shown → Live (suc n) B d.position.settings (right_click B i d).desk
unfolding right_click
right_live n B i d g h p w lt =
    pick_both (λ (o : Play). Live (suc n) B d.position.settings o.desk) (closed_at d.shown i)
    (done 1 (passes_after_flag B (flagged B i (add_right d)))) (take_back i (add_right d))
    (λ e.
    after_flag_live (suc n) B d.position.settings (flagged B i (add_right d))
    (right_running (right_flags n B i d h lt (eqb-true (get_or d.shown i 0) 10 e)) g p w).live)
    (λ e. (right_running (right_takes_back n B i d h lt e) g p w).live)

-- dce + 1 after a chord
dce_live : {n : ℕ} {B : List ℤ} {s : Settings} {e : Desk} → e.position.counts.dce ≤ n → Live (suc n) B s e
    → Live (suc n) B s (on e (with_dce e.position (e.position.counts.dce + 1)))
dce_live h l =
    let b = l.kept.sound.bounded in
    record {
      kept = record {
        sound = recount l.kept.sound (omega arith) (omega arith) refl refl refl;
        preflags = l.kept.preflags;
        held = l.kept.held;
        phase = l.kept.phase;
      };
      settings = l.settings;
      told = l.told;
    }

-- CHORD by hand, while Playing
pub chording_live : (n : ℕ) (B : List ℤ) (i : ℕ) (s : Settings) (d : Desk) → d.position.game ≡ Playing → Live n B s d
    → Live (suc n) B s (chording_click B i d).desk
unfolding chording_click
chording_live n B i s d g l =
    let c = chord_done (suc n) B i s (add_double d) g (record { kept = double_counts l.kept; settings = l.settings; told = l.told }) in
    let o : Play = perform_chord B i (add_double d) in
    after_chord_live (suc n) B s (add_dce o).desk
    (pick_both (λ (o : Play). Live (suc n) B s o.desk) (eqb o.answer 0) o (done o.answer (on o.desk (with_dce o.desk.position (o.desk.position.counts.dce + 1))))
    (λ _. c.live)
    (λ _.
    dce_live
    (let b = l.kept.sound.bounded in
    let q : o.desk.position.counts.dce ≡ d.position.counts.dce = c.dce in
    omega arith)
    c.live))

-- where nothing is open and the game is not Playing a chord by hand only counts
pub chording_shut : (B : List ℤ) (i : ℕ) (d : Desk) → count_shown is_open d.shown ≡ 0 → i < length d.shown → is_playing d.position.game ≡ false
    → chording_click B i d ≡ done 0 (add_double d)
unfolding chording_click passes_after_chord
chording_shut B i d z lt g = rw (chord_shut B i (add_double d) z lt, g)
