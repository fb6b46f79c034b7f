-- The chord pass opens only safe cells: the closed neighbours of a useful number are safe, and opening spreads only from 0 cells.
use mathlib.Core.Path.{◌≡◌, ◌∙◌, sym, ap, refl, subst⁻¹}
use mathlib.Core.Bool.{Bool, true, false, true≢false}
use mathlib.Core.List.{List, []}
use Prim.Native.Nat.{ℕ, zero, suc, ◌*◌, ◌<◌, ◌≤◌}
use native.Mathlib.Omega.{arith}
use lib.Dec.{eqb}
use lib.IntN.{ℤ}
use lib.ListN.{length}
use Rattle.rules.specs.declared.Settings.{Settings}
use Rattle.rules.specs.declared.GameState.TheVariants.{Playing}
use Rattle.rules.specs.States.{is_playing}
use Rattle.rules.specs.Board.{face_at, mine_at}
use Rattle.rules.specs.Opening.{closed_at, Opened, refreshed}
use Rattle.rules.specs.Clicks.{Desk, Play, done, rows_of, columns_of, cells_of, uncovered, ended, chord_is_useful, closed_around, chord_counts, chord_opens, perform_chord}
use Rattle.rules.specs.Passes.{Scan, noted, chord_one, chord_scan, chord_round, chord_more, chord_pass}
use Rattle.cells.specs.Ground.{Valued}
use Rattle.cells.proofs.Words.{pick_both, rounds_keep}
use Rattle.opening.specs.Changed.{Changed, kept, opened, wrong}
use Rattle.opening.proofs.Cost.{face_ne}
use Rattle.opening.proofs.Lists.{all_pushed}
use Rattle.opening.proofs.Opening.{opening_length, opening_changes, opening_safe}
use Rattle.keep.proofs.Opened.{opening_spares}
use Rattle.keep.proofs.Passes.{playing_is}
use Rattle.harmless.specs.Harmless.{Right, Spared, stays, opens, AllSpared, NotLost}
use Rattle.harmless.proofs.Spared.{harmless_by, playing_not_lost, Calm, calm_on, calm_none}
use Rattle.harmless.proofs.Numbers.{Honest, honest_after, honest_own, useful_safe}

-- ---- an opening that hits no mine --------------------------------------------------------------------------------------------------------

module _ {B : List ℤ} {hit : Bool} {i : ℕ} (v : Valued B) (unhit : hit ≡ false) where
  changed_spared : {x y : ℕ} → Changed B hit i x y → (mine_at B i ≡ true → y ≡ x) → Spared B i x y
  changed_spared kept s = stays refl
  changed_spared opened s = go (mine_at B i) refl
    where
      go : (t : Bool) → mine_at B i ≡ t → Spared B i 10 (face_at B i)
      go true e = absurd (face_ne B v i 10 (omega arith) (omega arith) (s e))
      go false e = opens refl refl e
  changed_spared (wrong w m) s = absurd (true≢false (sym w ∙ unhit))

-- how an opening that hits no mine ends, from a desk that is Playing: the game goes on or is won
record Goes (d e : Desk) (l : List ℕ) : Type 0 where
  pub shown : e.shown ≡ l
  pub settings : e.position.settings ≡ d.position.settings
  pub game : NotLost e.position.game

ended_unhit : (a : ℕ) (d : Desk) (o : Opened) → o.hit ≡ false → d.position.game ≡ Playing → Goes d (ended a d o).desk o.shown
unfolding ended
ended_unhit a d o e g =
    pick_both (λ (p : Play). Goes d p.desk o.shown) o.hit _ _ (λ h. absurd (true≢false (sym h ∙ e)))
    (λ _. pick_both (λ (p : Play). Goes d p.desk o.shown) (eqb (uncovered d o.shown).position.counts.unopened 0) _ _ (λ _. record { shown = refl; settings = refl; game = tt })
    (λ _. record { shown = refl; settings = refl; game = playing_not_lost d.position.game g }))

-- ---- a chord -----------------------------------------------------------------------------------------------------------------------------

module _ (B : List ℤ) (i : ℕ) (d : Desk) (t : Honest B d.position.settings d.shown) (r : Right B d) (lt : i < length d.shown) where
  chord_opens_calm : chord_is_useful (rows_of d) (columns_of d) d.shown i ≡ true → Calm B d (chord_opens B (closed_around (rows_of d) (columns_of d) d.shown i) d).desk
  unfolding chord_opens
  chord_opens_calm u =
      let R : ℕ = rows_of d in
      let C : ℕ = columns_of d in
      let cells : List ℕ = closed_around R C d.shown i in
      let o : Opened = refreshed B R C cells d.shown in
      let safe : o.hit ≡ false =
      opening_safe B R C t.valued t.numbers cells d.shown t.long
      (all_pushed R C (closed_at d.shown) i 8 [] (λ x. closed_at d.shown x ≡ true → mine_at B x ≡ false) (λ j j8 e _. useful_safe (honest_own t) r.flags i lt u j j8 e) (λ x e. absurd e)) in
      let spared : AllSpared B d.shown o.shown =
      λ j. changed_spared t.valued safe (opening_changes B R C cells d.shown t.valued j) (λ m. opening_spares B R C cells d.shown j m safe) in
      let end = ended_unhit 3 (chord_counts B cells d) o safe r.playing in
      record {
        harmless = harmless_by t.valued r.flags (subst⁻¹ (AllSpared B d.shown) end.shown spared) end.game;
        settings = end.settings;
        long = ap length end.shown ∙ opening_length B R C cells d.shown;
      }

  -- CHORD in a right game
  pub chord_calm : Calm B d (perform_chord B i d).desk
  unfolding perform_chord
  chord_calm =
      pick_both (λ (o : Play). Calm B d o.desk) (chord_is_useful (rows_of d) (columns_of d) d.shown i)
      (chord_opens B (closed_around (rows_of d) (columns_of d) d.shown i) d) (done 0 d)
      chord_opens_calm (λ _. calm_none r)

-- ---- the pass ----------------------------------------------------------------------------------------------------------------------------

module _ (B : List ℤ) (d : Desk) (t : Honest B d.position.settings d.shown) where
  chord_one_calm : (i : ℕ) (u : Scan) → i < cells_of d → Calm B d u.desk → Calm B d (chord_one B i u).desk
  unfolding chord_one
  chord_one_calm i u lt c =
      pick_both (λ (s : Scan). Calm B d s.desk) (is_playing u.desk.position.game) (noted u (perform_chord B i u.desk)) u
      (λ g. pick_both (λ (s : Scan). Calm B d s.desk) (eqb (perform_chord B i u.desk).answer 0) u (record { desk = (perform_chord B i u.desk).desk; any = true; ever = true })
      (λ _. c)
      (λ _.
      calm_on t.valued c
      (chord_calm B i u.desk (honest_after t c) (record { playing = playing_is u.desk.position.game g; flags = c.harmless.flags }) (omega (arith, c.long, t.size)))))
      (λ _. c)

  chord_scan_calm : (m : ℕ) (u : Scan) → m ≤ cells_of d → Calm B d u.desk → Calm B d (chord_scan B m u).desk
  unfolding chord_scan
  chord_scan_calm zero u le c = c
  chord_scan_calm (suc m) u le c = chord_one_calm m (chord_scan B m u) le (chord_scan_calm m u (omega arith) c)

  chord_round_calm : (u : Scan) → Calm B d u.desk → Calm B d (chord_round B u).desk
  unfolding chord_round
  chord_round_calm u c =
      let e : cells_of u.desk ≡ cells_of d = ap (λ (s : Settings). s.rows * s.columns) c.settings in
      chord_scan_calm (cells_of u.desk) (record { desk = u.desk; any = false; ever = u.ever }) (omega arith) c

  -- THE chord pass, after what was calm
  pub chord_pass_calm : (e : Desk) → Calm B d e → Calm B d (chord_pass B e).desk
  unfolding chord_pass
  chord_pass_calm e c =
      rounds_keep (chord_round B) chord_more (λ u. Calm B d u.desk) chord_round_calm (suc (cells_of e)) (record { desk = e; any = false; ever = false }) c
