-- The left click while Playing keeps the position: it opens a cell that shows 10, and counts.
use mathlib.Core.Path.{◌≡◌, ◌∙◌, sym, ap, refl, subst, subst⁻¹}
use mathlib.Core.Bool.{Bool, true, false, true≢false}
use mathlib.Core.List.{List, [], ◌∷◌}
use mathlib.Core.Logic.{inl, ⊎_elim}
use Prim.Native.Nat.{ℕ, suc, ◌*◌, ◌<◌, ◌≤◌}
use native.Mathlib.Omega.{arith}
use borrow.Author.Tests.{eqb-true, eq-eqb, le-leb}
use lib.IntN.{ℤ}
use lib.ListN.{length, get_or}
use Rattle.rules.specs.declared.Settings.{Settings}
use Rattle.rules.specs.declared.GameState.TheVariants.{Playing}
use Rattle.rules.specs.Words.{pick}
use Rattle.rules.specs.States.{is_not_flag}
use Rattle.rules.specs.Board.{face_at, mine_at}
use Rattle.rules.specs.Opening.{closed_at, refreshed, count_shown, is_open}
use Rattle.rules.specs.Clicks.{Desk, add_left, left_counts, solves_left, left_opens, left_click, ended}
use Rattle.cells.specs.Ground.{Valued}
use Rattle.cells.proofs.Words.{bit_le}
use Rattle.opening.proofs.Cost.{face_range}
use Rattle.opening.proofs.Lists.{count_less}
use Rattle.opening.proofs.Cases.{closed_in}
use Rattle.opening.proofs.Opening.{changed_open, opening_length, opening_changes, opening_opens_given}
use Rattle.keep.specs.Kept.{Sound, Live}
use Rattle.keep.proofs.Moves.{sound_in, left_counts_lem}
use Rattle.keep.proofs.Opened.{hit_counted, opens_more, opened_sound, ended_live}

-- a safe face is open
pub safe_open : (B : List ℤ) → Valued B → (i : ℕ) → mine_at B i ≡ false → is_open (face_at B i) ≡ true
safe_open B v i m =
    ⊎_elim (λ h. le-leb (face_at B i) 8 h) (λ e. absurd (true≢false (sym (eq-eqb (face_at B i) 15 e) ∙ m))) (face_range B v i)

-- a closed safe cell that is given is one open cell more
left_opens_more : (B : List ℤ) (R C i : ℕ) (shown : List ℕ) → Valued B → length shown ≡ R * C → closed_at shown i ≡ true → mine_at B i ≡ false
    → count_shown is_open shown < count_shown is_open (refreshed B R C (i ∷ []) shown).shown
unfolding count_shown
left_opens_more B R C i shown v long e m =
    rw (opening_length B R C (i ∷ []) shown)
    (count_less (λ j. is_open (get_or shown j 0)) (λ j. is_open (get_or (refreshed B R C (i ∷ []) shown).shown j 0)) (length shown) i (closed_in shown i e)
    (ap is_open (eqb-true (get_or shown i 0) 10 e))
    (ap is_open (opening_opens_given B R C v i (i ∷ []) shown long (omega arith) (inl refl) e) ∙ safe_open B v i m)
    (λ j _. changed_open (opening_changes B R C (i ∷ []) shown v j)))

module _ (n : ℕ) (B : List ℤ) (i : ℕ) (d : Desk) (g : d.position.game ≡ Playing)
    (h : Sound n B false d.position.settings d.position.counts d.position.secrets d.shown d.bits)
    (p : d.position.preflags ≤ n) (r : is_not_flag d.position.mouse ≡ true → 1 ≤ d.position.counts.right)
    (e : closed_at d.shown i ≡ true) where
  opens_by : (t : Bool) → mine_at B i ≡ t
      → Live (suc n) B d.position.settings
      (ended 2 (pick t (add_left d) (left_counts B (add_left d) i)) (refreshed B d.position.settings.rows d.position.settings.columns (i ∷ []) d.shown)).desk
  opens_by true m =
      let b = h.bounded in
      ended_live 2 (add_left d) (refreshed B d.position.settings.rows d.position.settings.columns (i ∷ []) d.shown) g refl
      (opened_sound (i ∷ []) h (omega arith) (omega arith) refl refl
      (let a = h.solved in
      let o = opens_more B d.position.settings.rows d.position.settings.columns (i ∷ []) d.shown h.ground.mined.valued in
      omega arith))
      (hit_counted B d.position.settings.rows d.position.settings.columns (i ∷ []) d.shown h.ground.mined.valued)
      (omega arith) r
  opens_by false m =
      let b = h.bounded in
      ended_live 2 (left_counts B (add_left d) i) (refreshed B d.position.settings.rows d.position.settings.columns (i ∷ []) d.shown) g refl
      (opened_sound (i ∷ []) h (omega arith) (omega arith) refl refl
      (let a = h.solved in
      let t = bit_le (solves_left B (add_left d) i) in
      let o = left_opens_more B d.position.settings.rows d.position.settings.columns i d.shown h.ground.mined.valued h.ground.board e m in
      omega arith))
      (hit_counted B d.position.settings.rows d.position.settings.columns (i ∷ []) d.shown h.ground.mined.valued)
      (omega arith) r

  -- a cell that shows 10, at a desk that is Playing and sound
  pub left_opens_lem : Live (suc n) B d.position.settings (left_click B i d).desk
  unfolding left_click left_opens
  left_opens_lem = rw e (opens_by (mine_at B i) refl)

left_shut : (B : List ℤ) (i : ℕ) (d : Desk) → closed_at d.shown i ≡ false → (left_click B i d).desk ≡ add_left d
unfolding left_click
left_shut B i d e = rw e

-- LEFT, while Playing
pub left_live : (n : ℕ) (B : List ℤ) (i : ℕ) (s : Settings) (d : Desk) → d.position.game ≡ Playing → Live n B s d → Live (suc n) B s (left_click B i d).desk
left_live n B i s d g l = go (closed_at d.shown i) refl
  where
    go : (t : Bool) → closed_at d.shown i ≡ t → Live (suc n) B s (left_click B i d).desk
    go true e =
        subst (λ (s : Settings). Live (suc n) B s (left_click B i d).desk) l.settings
        (left_opens_lem n B i d g (sound_in Playing g l.kept) l.kept.preflags l.kept.held e)
    go false e =
        subst⁻¹ (λ (e : Desk). Live (suc n) B s e) (left_shut B i d e)
        (record { kept = left_counts_lem l.kept; settings = l.settings; told = l.told })
