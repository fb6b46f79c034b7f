-- An opening keeps the invariant, and no chord opens: with no flag shown only a 0 could be chorded, and its neighbours are open. Assumes nothing.
use mathlib.Core.Path.{◌≡◌, refl, sym, ap, ◌∙◌}
use mathlib.Core.Bool.{Bool, true, false}
use mathlib.Core.List.{List, [], ◌∷◌}
use mathlib.Core.Logic.{◌⊎◌, inl, inr}
use Prim.Native.Nat.{ℕ, ◌*◌, ◌<◌, ◌≤◌}
use native.Mathlib.Omega.{arith}
use borrow.Author.Tests.{eqb-true, eq-eqb, ne_eqb, ltb-true}
use lib.Dec.{eqb, ltb}
use lib.ListN.{length, get_or}
use lib.IntN.{ℤ}
use Rattle.rules.specs.declared.Settings.{Settings}
use Rattle.rules.specs.declared.GameState.TheVariants.{Win, Loss}
use Rattle.rules.specs.Words.{pick}
use Rattle.rules.specs.States.{is_playing, with_game}
use Rattle.rules.specs.Grid.{neighbour, around}
use Rattle.rules.specs.Board.{face_at, mine_at}
use Rattle.rules.specs.Opening.{closed_at, Opened, run, turns, crossed, refreshed}
use Rattle.rules.specs.Clicks.{Desk, done, on, showing, rows_of, columns_of, uncovered, ended, add_left, left_counts, left_opens, left_click, flag_at, chord_is_useful, perform_chord}
use Rattle.rules.specs.Passes.{mode_both, mode_chord, both_pass, chord_pass, passes_after_chord, add_double, chording_click}
use Rattle.cells.specs.Ground.{Valued}
use Rattle.cells.proofs.Words.{and_left, and_right, false_unless, pick_both, count_zero}
use Rattle.opening.specs.Changed.{Changed, kept, opened, wrong}
use Rattle.opening.specs.Reach.{spread, Opens, Exact}
use Rattle.opening.proofs.Cost.{face_range, face_ne}
use Rattle.opening.proofs.Opening.{crossed_crosses, Crosses, opening_length, opening_changes}
use Rattle.opening.proofs.Exact.{closed_was, run_exact}
use Rattle.noflag.specs.Class.{Clean}
use Rattle.noflag.proofs.Bare.{Flooded, Bare, BareAt, Spotless, SpotlessO}

-- ---- what an opening shows ---------------------------------------------------------------------------------------------------------------

-- no cell comes to show what is no face
changed_not : {B : List ℤ} {hit : Bool} {i x y : ℕ} (n : ℕ) → Changed B hit i x y → (face_at B i ≡ n → ⊥) → (x ≡ 11 → ⊥) → (x ≡ n → ⊥) → y ≡ n → ⊥
changed_not n kept f a b e = b e
changed_not n opened f a b e = f e
changed_not n (wrong h m) f a b e = a refl

face_not_17 : (B : List ℤ) → Valued B → (i : ℕ) → face_at B i ≡ 17 → ⊥
face_not_17 B v i e = go (face_range B v i)
  where
    go : (face_at B i ≤ 8) ⊎ (face_at B i ≡ 15) → ⊥
    go (inl l) = omega arith
    go (inr q) = omega arith

module _ (B : List ℤ) (v : Valued B) where
  -- the run leaves no closed cell beside an open 0
  run_flooded : (R C : ℕ) (given s : List ℕ) (o : Opened) → Exact B R C given s o → Flooded R C s → Flooded R C o.shown
  run_flooded R C given s o x f i lt z k l t = go (x.opens i)
    where
      q : ℕ
      q = neighbour R C i k

      shut : closed_at s q ≡ true
      shut = closed_was B v s o.shown q (x.opens q) (eq-eqb (get_or o.shown q 0) 10 t)

      go : Opens B s o.shown i → ⊥
      go (inl e) = f i (let a = x.long in omega arith) (sym e ∙ z) k l (eqb-true (get_or s q 0) 10 shut)
      go (inr e) =
          face_ne B v q 10 (omega arith) (omega arith)
          (sym (x.whole q (spread k (x.sound i e.0 e.1) (sym e.1 ∙ z) l refl shut)) ∙ t)

  -- where no 11 is shown, no wrong flag is
  crossed_same : (o : Opened) → ((i : ℕ) → get_or o.shown i 0 ≡ 11 → ⊥) → (i : ℕ)
      → get_or (pick o.hit (crossed B (length o.shown) o.shown) o.shown) i 0 ≡ get_or o.shown i 0
  crossed_same o n i =
      pick_both (λ (l : List ℕ). get_or l i 0 ≡ get_or o.shown i 0) o.hit (crossed B (length o.shown) o.shown) o.shown
      (λ _. go (crossed_crosses B (length o.shown) o.shown i (omega arith))) (λ _. refl)
    where
      go : Crosses B o.shown (crossed B (length o.shown) o.shown) i → get_or (crossed B (length o.shown) o.shown) i 0 ≡ get_or o.shown i 0
      go (inl e) = e
      go (inr e) = absurd (n i e.1.0)

  flooded_by : (R C : ℕ) (s s' : List ℕ) → length s' ≡ length s → ((i : ℕ) → get_or s' i 0 ≡ get_or s i 0) → Flooded R C s → Flooded R C s'
  flooded_by R C s s' e same f i lt z k l t = f i (omega arith) (sym (same i) ∙ z) k l (sym (same (neighbour R C i k)) ∙ t)

  opening_flooded : (R C i : ℕ) (s : List ℕ) → length s ≡ R * C → ((j : ℕ) → get_or s j 0 ≡ 11 → ⊥) → Flooded R C s
      → Flooded R C (refreshed B R C (i ∷ []) s).shown
  unfolding refreshed
  opening_flooded R C i s long n f =
      let o : Opened = run B R C (turns (R * C)) (i ∷ []) s false in
      let x : Exact B R C (i ∷ []) s o = run_exact B R C v (i ∷ []) s long (omega arith) in
      flooded_by R C o.shown (refreshed B R C (i ∷ []) s).shown (opening_length B R C (i ∷ []) s ∙ sym x.long)
      (crossed_same o (λ j e. unflagged o x j (x.opens j) e)) (run_flooded R C (i ∷ []) s o x f)
    where
      unflagged : (o : Opened) → Exact B R C (i ∷ []) s o → (j : ℕ) → Opens B s o.shown j → get_or o.shown j 0 ≡ 11 → ⊥
      unflagged o x j (inl e) t = n j (sym e ∙ t)
      unflagged o x j (inr e) t = face_ne B v j 11 (omega arith) (omega arith) (sym e.1 ∙ t)

  opened_bare : (s : Settings) {f r c e k p : ℕ} (shown : List ℕ) {bits : List ℕ} (i : ℕ) → Bare s f r c e k p shown bits
      → Bare s f r c e k p (refreshed B s.rows s.columns (i ∷ []) shown).shown bits
  opened_bare s shown i h =
      let c = opening_changes B s.rows s.columns (i ∷ []) shown v in
      record {
        mode = h.mode;
        long = opening_length B s.rows s.columns (i ∷ []) shown ∙ h.long;
        flooded = opening_flooded s.rows s.columns i shown h.long h.no_flag h.flooded;
        no_flag = λ j. changed_not 11 (c j) (face_ne B v j 11 (omega arith) (omega arith)) (h.no_flag j) (h.no_flag j);
        no_wrong = λ j. changed_not 14 (c j) (face_ne B v j 14 (omega arith) (omega arith)) (h.no_flag j) (h.no_wrong j);
        no_question = λ j. changed_not 17 (c j) (face_not_17 B v j) (h.no_flag j) (h.no_question j);
        no_bit = h.no_bit;
        flag = h.flag;
        right = h.right;
        dce = h.dce;
        rce = h.rce;
        chord = h.chord;
        pre = h.pre;
      }

  -- ---- left ------------------------------------------------------------------------------------------------------------------------------

  ended_spotless : (n : ℕ) (d : Desk) (o : Opened) → Spotless (showing d o.shown) → SpotlessO (ended n d o)
  unfolding ended
  ended_spotless n d o h =
      let u : Desk = uncovered d o.shown in
      pick_both SpotlessO o.hit (done 4 (on u (with_game u.position Loss))) _ (λ _. h)
      (λ _. pick_both SpotlessO (eqb u.position.counts.unopened 0) (done n (on u (with_game u.position Win))) (done n u) (λ _. h) (λ _. h))

  left_opens_spotless : (i : ℕ) (d : Desk) → Spotless d → SpotlessO (left_opens B i d)
  unfolding left_opens
  left_opens_spotless i d h =
      let o : Opened = refreshed B (rows_of d) (columns_of d) (i ∷ []) d.shown in
      let b : BareAt (showing d o.shown) = opened_bare d.position.settings d.shown i h.0 in
      pick_both (λ (e : Desk). SpotlessO (ended 2 e o)) (mine_at B i) d (left_counts B d i) (λ _. ended_spotless 2 d o (b, h.1))
      (λ _. ended_spotless 2 (left_counts B d i) o (b, h.1))

  pub left_spotless : (i : ℕ) (d : Desk) → Spotless d → SpotlessO (left_click B i d)
  unfolding left_click
  left_spotless i d h =
      pick_both SpotlessO (closed_at d.shown i) (left_opens B i (add_left d)) (done 0 (add_left d)) (λ _. left_opens_spotless i (add_left d) h) (λ _. h)

-- ---- chord -------------------------------------------------------------------------------------------------------------------------------

useless : (R C : ℕ) (shown : List ℕ) (i : ℕ) → ((j : ℕ) → get_or shown j 0 ≡ 11 → ⊥) → Flooded R C shown → i < length shown → chord_is_useful R C shown i ≡ false
unfolding chord_is_useful around
useless R C shown i n f lt =
    false_unless _ (λ t.
    let u = and_right (ltb (get_or shown i 0) 8) _ t in
    let e : around R C (flag_at shown) i ≡ get_or shown i 0 = eqb-true _ _ (and_left (eqb (around R C (flag_at shown) i) (get_or shown i 0)) _ u) in
    let p : 0 < around R C (closed_at shown) i = ltb-true 0 _ (and_right (eqb (around R C (flag_at shown) i) (get_or shown i 0)) _ u) in
    let a : around R C (flag_at shown) i ≡ 0 = count_zero (λ k. flag_at shown (neighbour R C i k)) 8 (λ k l. ne_eqb _ _ (n (neighbour R C i k))) in
    let c : around R C (closed_at shown) i ≡ 0 = count_zero (λ k. closed_at shown (neighbour R C i k)) 8 (λ k l. ne_eqb _ _ (f i lt (sym e ∙ a) k l)) in
    omega arith)

chord_idle : (B : List ℤ) (i : ℕ) (d : Desk) → BareAt d → i < length d.shown → perform_chord B i d ≡ done 0 d
unfolding perform_chord
chord_idle B i d h lt = rw (useless (rows_of d) (columns_of d) d.shown i h.no_flag h.flooded lt)

-- mode 0 runs no pass
no_pass : (B : List ℤ) (d : Desk) → d.position.settings.mode ≡ 0 → passes_after_chord B d ≡ d
unfolding passes_after_chord
no_pass B d e =
    ap (λ (m : ℕ). pick (is_playing d.position.game) (pick (mode_both m) (both_pass B d) (pick (mode_chord m) (chord_pass B d).desk d)) d) e
    ∙ pick_both (λ (x : Desk). x ≡ d) (is_playing d.position.game) d d (λ _. refl) (λ _. refl)

-- a chord by hand only counts double
pub chord_counts_lem : (B : List ℤ) (i : ℕ) (d : Desk) → BareAt d → i < length d.shown → chording_click B i d ≡ done 0 (add_double d)
unfolding chording_click
chord_counts_lem B i d h lt = rw (chord_idle B i (add_double d) h lt) (ap (done 0) (no_pass B (add_double d) h.mode))

-- ---- what the class promises of such a desk ------------------------------------------------------------------------------------------------

pub spotless_clean : (d : Desk) → Spotless d → Clean d
spotless_clean d h = record {
  no_flag = h.0.no_flag;
  no_wrong = h.0.no_wrong;
  no_question = h.0.no_question;
  flag = h.0.flag;
  rce = h.0.rce;
  right = h.0.right;
  preflags = h.0.pre;
  bits = h.0.no_bit;
  dce = h.0.dce;
  solved_chord_lem = h.0.chord;
  mouse = h.1;
  chords = λ B i lt. chord_counts_lem B i d h.0 lt;
}
