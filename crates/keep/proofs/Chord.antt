-- The chord while Playing keeps the position: its closed neighbours are different cells, each safe one is open afterwards, and that pays for
-- the solved count.
use mathlib.Core.Path.{◌≡◌, ◌∙◌, sym, ap, refl}
use mathlib.Core.Bool.{Bool, true, false, not, ◌&&◌, true≢false, false≢true}
use mathlib.Core.List.{List, []}
use Prim.Native.Nat.{ℕ, ◌+◌, ◌*◌, ◌<◌, ◌≤◌}
use native.Mathlib.Omega.{arith}
use native.Mathlib.Decide.{dec_lt}
use borrow.Author.Tests.{eqb-true, le-leb, ltb-true, not-true}
use lib.Dec.{eqb, ltb}
use lib.IntN.{ℤ}
use lib.ListN.{length, get_or, get_or-eq_default}
use Rattle.rules.specs.declared.Settings.{Settings}
use Rattle.rules.specs.declared.GameState.TheVariants.{Playing, Win, Loss}
use Rattle.rules.specs.Words.{pick, count}
use Rattle.rules.specs.States.{with_game}
use Rattle.rules.specs.Grid.{neighbour, around}
use Rattle.rules.specs.Opening.{closed_at, Opened, refreshed, count_shown, is_open}
use Rattle.rules.specs.Clicks.{Desk, done, on, uncovered, rows_of, columns_of, flag_at, chord_is_useful, closed_around, chord_counts, chord_opens, perform_chord, ended}
use Rattle.cells.specs.Ground.{Valued}
use Rattle.cells.proofs.Words.{and_left, and_right, and_both, count_mono}
use Rattle.judging.specs.Joining.{among, safe_at}
use Rattle.judging.proofs.Judging.{judged_lones_safe}
use Rattle.opening.proofs.Lists.{neighbour_pushed}
use Rattle.opening.proofs.Opening.{opening_opens_given}
use Rattle.opening.proofs.Ticking.{opening_newly}
use Rattle.cells.proofs.Grid.{pushed_height}
use Rattle.keep.specs.Kept.{Live}
use Rattle.keep.proofs.Counting.{shown_none}
use Rattle.keep.proofs.Moves.{sound_in}
use Rattle.keep.proofs.Opened.{hit_counted, opened_sound, ended_live}
use Rattle.keep.proofs.Left.{safe_open}
use Rattle.keep.proofs.Around.{count_along, neighbours_apart, among_pushed}

among_none : (p : ℕ → Bool) → among p [] ≡ 0
unfolding among
among_none p = refl

-- ---- the safe closed neighbours are open afterwards ------------------------------------------------------------------------------------

module _ (B : List ℤ) (R C i : ℕ) (shown : List ℕ) (v : Valued B) (long : length shown ≡ R * C) where
  abbrev after : List ℕ
  after = (refreshed B R C (closed_around R C shown i) shown).shown

  -- a cell that was not open and is
  abbrev newly : ℕ → Bool
  newly j = not (is_open (get_or shown j 0)) && is_open (get_or after j 0)

  newly_in : (j : ℕ) → newly j ≡ true → j < R * C
  newly_in j e = go (dec_lt j (R * C))
    where
      go : Dec (j < R * C) → j < R * C
      go (yes h) = h
      go (no h) =
          let z : get_or shown j 0 ≡ 0 = get_or-eq_default shown 0 (omega arith) in
          absurd (true≢false (sym (and_left (not (is_open (get_or shown j 0))) _ e) ∙ ap (λ (y : ℕ). not (is_open y)) z))

  safe_newly : (k : ℕ) → k < 8 → (closed_at shown (neighbour R C i k) && safe_at B (neighbour R C i k)) ≡ true → newly (neighbour R C i k) ≡ true
  safe_newly k h e =
      let c = and_left (closed_at shown (neighbour R C i k)) _ e in
      let m = not-true _ (and_right (closed_at shown (neighbour R C i k)) _ e) in
      and_both _ _ (ap (λ (y : ℕ). not (is_open y)) (eqb-true (get_or shown (neighbour R C i k) 0) 10 c))
      (ap is_open
      (opening_opens_given B R C v (neighbour R C i k) (closed_around R C shown i) shown long (let l = pushed_height R C (closed_at shown) i 8 [] in omega arith)
      (neighbour_pushed R C (closed_at shown) i 8 [] k h c) c)
      ∙ safe_open B v (neighbour R C i k) m)

  newly_adds : count_shown is_open shown + count newly (R * C) ≤ count_shown is_open after
  newly_adds =
      let g = opening_newly B R C (closed_around R C shown i) shown v in
      let l : count newly (length shown) ≡ count newly (R * C) = ap (count newly) long in
      omega arith

  pub chord_opens_more : count_shown is_open shown + among (safe_at B) (closed_around R C shown i) ≤ count_shown is_open after
  chord_opens_more =
      let a = newly_adds in
      let p = among_pushed R C (closed_at shown) (safe_at B) i 8 [] in
      let z = among_none (safe_at B) in
      let m = count_mono (λ k. closed_at shown (neighbour R C i k) && safe_at B (neighbour R C i k)) (λ k. newly (neighbour R C i k)) 8 safe_newly in
      let c = count_along newly (neighbour R C i) (R * C) 8 (λ k h e. newly_in (neighbour R C i k) e)
      (λ k l h lt ek el. neighbours_apart R C i k l h (newly_in (neighbour R C i k) ek) (newly_in (neighbour R C i l) el)) in
      omega arith

-- ---- the chord -------------------------------------------------------------------------------------------------------------------------

-- what a chord leaves of desk d
pub record ChordDone (n : ℕ) (B : List ℤ) (s : Settings) (d e : Desk) : Type 0 where
  pub live : Live n B s e
  pub dce : e.position.counts.dce ≡ d.position.counts.dce
  pub mouse : e.position.mouse ≡ d.position.mouse
  pub preflags : e.position.preflags ≡ d.position.preflags

module _ (a : ℕ) (d : Desk) (o : Opened) where
  abbrev shows : Desk
  shows = uncovered d o.shown

  ended_by : (Q : Desk → Type 0) → Q (on shows (with_game shows.position Loss)) → Q (on shows (with_game shows.position Win)) → Q shows → Q (ended a d o).desk
  unfolding ended
  ended_by Q x y z = go o.hit (eqb shows.position.counts.unopened 0)
    where
      go : (t u : Bool)
          → Q (pick t (done 4 (on shows (with_game shows.position Loss))) (pick u (done a (on shows (with_game shows.position Win))) (done a shows))).desk
      go true u = x
      go false true = y
      go false false = z

module _ (n : ℕ) (B : List ℤ) (i : ℕ) (s : Settings) (d : Desk) (g : d.position.game ≡ Playing) (l : Live n B s d) where
  chord_opens_lem : ChordDone n B s d (chord_opens B (closed_around (rows_of d) (columns_of d) d.shown i) d).desk
  unfolding chord_opens
  chord_opens_lem =
      let R : ℕ = rows_of d in
      let C : ℕ = columns_of d in
      let cells : List ℕ = closed_around R C d.shown i in
      let h = sound_in Playing g l.kept in
      let b = h.bounded in
      let v = h.ground.mined.valued in
      record {
        live =
            ended_live 3 (chord_counts B cells d) (refreshed B R C cells d.shown) g l.settings
            (opened_sound cells h (omega arith) (omega arith) refl refl
            (let a = h.solved in
            let o = chord_opens_more B R C i d.shown v h.ground.board in
            let j = judged_lones_safe B R C d.shown cells in
            omega arith))
            (hit_counted B R C cells d.shown v)
            l.kept.preflags l.kept.held;
        dce = ended_by 3 (chord_counts B cells d) (refreshed B R C cells d.shown) (λ e. e.position.counts.dce ≡ d.position.counts.dce) refl refl refl;
        mouse = ended_by 3 (chord_counts B cells d) (refreshed B R C cells d.shown) (λ e. e.position.mouse ≡ d.position.mouse) refl refl refl;
        preflags = ended_by 3 (chord_counts B cells d) (refreshed B R C cells d.shown) (λ e. e.position.preflags ≡ d.position.preflags) refl refl refl;
      }

  -- CHORD, while Playing, at the same bound
  pub chord_done : ChordDone n B s d (perform_chord B i d).desk
  unfolding perform_chord
  chord_done = go (chord_is_useful (rows_of d) (columns_of d) d.shown i)
    where
      go : (t : Bool) → ChordDone n B s d (pick t (chord_opens B (closed_around (rows_of d) (columns_of d) d.shown i) d) (done 0 d)).desk
      go true = chord_opens_lem
      go false = record { live = l; dce = refl; mouse = refl; preflags = refl }

-- where nothing is open no chord runs
pub chord_shut : (B : List ℤ) (i : ℕ) (d : Desk) → count_shown is_open d.shown ≡ 0 → i < length d.shown → perform_chord B i d ≡ done 0 d
unfolding perform_chord chord_is_useful
chord_shut B i d z lt = rw (useless (ltb (get_or d.shown i 0) 8) refl)
  where
    useless : (t : Bool) → ltb (get_or d.shown i 0) 8 ≡ t
        → (ltb (get_or d.shown i 0) 8 && (eqb (around (rows_of d) (columns_of d) (flag_at d.shown) i) (get_or d.shown i 0)
        && ltb 0 (around (rows_of d) (columns_of d) (closed_at d.shown) i))) ≡ false
    useless true e =
        let h = ltb-true (get_or d.shown i 0) 8 e in
        absurd (false≢true (sym (shown_none is_open d.shown z i lt) ∙ le-leb (get_or d.shown i 0) 8 (omega arith)))
    useless false e = rw e
