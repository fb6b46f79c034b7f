-- An opening keeps the position sound, and ends it in Loss, Win or Playing.
use mathlib.Core.Path.{◌≡◌, ◌∙◌, sym, ap, refl, subst, subst⁻¹}
use mathlib.Core.Bool.{Bool, true, false, not, true≢false, false≢true}
use mathlib.Core.List.{List, [], ◌∷◌}
use mathlib.Core.Logic.{◌⊎◌, inl, inr, ⊎_elim}
use Prim.Native.Nat.{ℕ, zero, suc, ◌+◌, ◌-◌, ◌*◌, ◌<◌, ◌≤◌}
use native.Mathlib.Omega.{arith}
use native.Mathlib.Decide.{ℕ_discrete}
use borrow.Author.Tests.{eq-eqb, ne_eqb, le-leb}
use lib.Dec.{eqb, leb}
use lib.IntN.{ℤ}
use lib.ListN.{length, get_or}
use Rattle.rules.specs.declared.Settings.{Settings}
use Rattle.rules.specs.declared.Counts.{Counts}
use Rattle.rules.specs.declared.Secrets.{Secrets}
use Rattle.rules.specs.declared.GameState.{GameState}
use Rattle.rules.specs.declared.GameState.TheVariants.{Playing, Win, Loss}
use Rattle.rules.specs.Words.{pick}
use Rattle.rules.specs.States.{is_loss, is_not_flag, with_game}
use Rattle.rules.specs.Board.{face_at, mine_at}
use Rattle.rules.specs.Opening.{closed_at, shown_after, stack_after, hit_after, run, turns, crossed, Opened, refreshed, count_shown, is_open, opened_in}
use Rattle.rules.specs.Clicks.{Desk, done, on, uncovered, ended}
use Rattle.rules.specs.Lawful.{shows, is_flag, is_open_or_hit, cell_lawful, is_won}
use Rattle.cells.specs.Ground.{Valued}
use Rattle.opening.specs.Changed.{Changed, kept, opened, wrong}
use Rattle.opening.proofs.Cases.{shown_shut, hit_mine, hit_stays}
use Rattle.opening.proofs.Cost.{face_range}
use Rattle.opening.proofs.Opening.{changed_flags, after_other, opening_length, opening_changes, opening_hit_shows}
use Rattle.opening.proofs.Ticking.{opening_newly}
use Rattle.keep.specs.Kept.{Bounded, Sound, Phase, Live}
use Rattle.keep.proofs.Counting.{shown_some, shown_mono, shown_same}
use Rattle.keep.proofs.Unopened.{won_read, open_safe, unopened_falls}

-- ---- where no mine is hit, mines stay as they are --------------------------------------------------------------------------------------

module _ (B : List ℤ) (R C : ℕ) where
  run_hit : (f : ℕ) (st shown : List ℕ) (hit : Bool) → hit ≡ true → (run B R C f st shown hit).hit ≡ true
  unfolding run
  run_hit zero st shown hit h = h
  run_hit (suc f) [] shown hit h = h
  run_hit (suc f) (c ∷ st) shown hit h =
      run_hit f (stack_after B R C shown c st) (shown_after B shown c) (hit_after B shown c hit) (ap (hit_after B shown c) h ∙ hit_stays B shown c)

  run_spares : (i : ℕ) → mine_at B i ≡ true → (f : ℕ) (st shown : List ℕ) (hit : Bool) → (run B R C f st shown hit).hit ≡ false
      → get_or (run B R C f st shown hit).shown i 0 ≡ get_or shown i 0
  unfolding run
  run_spares i m zero st shown hit h = refl
  run_spares i m (suc f) [] shown hit h = refl
  run_spares i m (suc f) (c ∷ st) shown hit h =
      run_spares i m f (stack_after B R C shown c st) (shown_after B shown c) (hit_after B shown c hit) h ∙ go (ℕ_discrete i c) (closed_at shown c) refl
    where
      go : Dec (i ≡ c) → (t : Bool) → closed_at shown c ≡ t → get_or (shown_after B shown c) i 0 ≡ get_or shown i 0
      go (yes q) true e =
          absurd (false≢true (sym h ∙ run_hit f (stack_after B R C shown c st) (shown_after B shown c) (hit_after B shown c hit)
          (hit_mine B R C shown c hit e (ap (mine_at B) (sym q) ∙ m))))
      go (yes q) false e = ap (λ (l : List ℕ). get_or l i 0) (shown_shut B R C shown c e)
      go (no q) t e = after_other B shown c i q

  pub opening_spares : (given shown : List ℕ) (i : ℕ) → mine_at B i ≡ true → (refreshed B R C given shown).hit ≡ false
      → get_or (refreshed B R C given shown).shown i 0 ≡ get_or shown i 0
  unfolding refreshed
  opening_spares given shown i m h =
      ap (λ (t : Bool). get_or (pick t (crossed B (length (run B R C (turns (R * C)) given shown false).shown) (run B R C (turns (R * C)) given shown false).shown)
      (run B R C (turns (R * C)) given shown false).shown) i 0) h
      ∙ run_spares i m (turns (R * C)) given shown false h

-- ---- cell by cell ----------------------------------------------------------------------------------------------------------------------

-- what is lawful before Loss is lawful in Loss
loss_by : (a b c d e g q u w : Bool) → pick a u (pick b true (pick c true (pick d q (pick e false (pick g false false))))) ≡ true
    → pick a u (pick b true (pick c true (pick d q (pick e w (pick g (not w) false))))) ≡ true
loss_by true b c d e g q u w h = h
loss_by false true c d e g q u w h = h
loss_by false false true d e g q u w h = h
loss_by false false false true e g q u w h = h
loss_by false false false false true g q u w h = absurd (false≢true h)
loss_by false false false false false true q u w h = absurd (false≢true h)
loss_by false false false false false false q u w h = h

not_not : (a : Bool) → not (not a) ≡ a
not_not true = refl
not_not false = refl

lawful_lost : (q : Bool) (f x : ℕ) → cell_lawful q false f x ≡ true → cell_lawful q true f x ≡ true
unfolding cell_lawful
lawful_lost q f x h =
    subst (λ (t : Bool). pick (leb x 8) (eqb x f) (pick (eqb x 10) true (pick (eqb x 11) true (pick (eqb x 17) q (pick (eqb x 14) (not (eqb f 15)) (pick (eqb x 15) t false))))) ≡ true)
    (not_not (eqb f 15))
    (loss_by (leb x 8) (eqb x 10) (eqb x 11) (eqb x 17) (eqb x 14) (eqb x 15) q (eqb x f) (not (eqb f 15)) h)

pub lawful_later : (q t : Bool) (f x : ℕ) → cell_lawful q false f x ≡ true → cell_lawful q t f x ≡ true
lawful_later q true f x h = lawful_lost q f x h
lawful_later q false f x h = h

-- a number may be shown open
pub number_lawful : (q t : Bool) (f : ℕ) → f ≤ 8 → cell_lawful q t f f ≡ true
unfolding cell_lawful
number_lawful q t f h = rw (le-leb f 8 h) (eq-eqb f f refl)

hit_lawful : (q : Bool) → cell_lawful q true 15 15 ≡ true
unfolding cell_lawful
hit_lawful q = refl

wrong_lawful : (q : Bool) (f : ℕ) → eqb f 15 ≡ false → cell_lawful q true f 14 ≡ true
unfolding cell_lawful
wrong_lawful q f e = ap not e

-- what an opened cell shows is not 14
face_14 : (f : ℕ) → (f ≤ 8) ⊎ (f ≡ 15) → eqb f 14 ≡ false
face_14 f (inl h) = ne_eqb f 14 (λ e. omega arith)
face_14 f (inr h) = ap (λ (y : ℕ). eqb y 14) h

module _ {B : List ℤ} {hit : Bool} {i : ℕ} (r : (face_at B i ≤ 8) ⊎ (face_at B i ≡ 15)) where
  changed_14 : {x y : ℕ} → Changed B hit i x y → hit ≡ false → shows 14 y ≡ true → shows 14 x ≡ true
  changed_14 kept e h = h
  changed_14 opened e h = absurd (false≢true (sym (face_14 (face_at B i) r) ∙ h))
  changed_14 (wrong w m) e h = absurd (true≢false (sym w ∙ e))

  changed_cell : {x y : ℕ} (q : Bool) → Changed B hit i x y → (mine_at B i ≡ true → hit ≡ false → y ≡ x) → cell_lawful q false (face_at B i) x ≡ true
      → cell_lawful q hit (face_at B i) y ≡ true
  changed_cell q kept s h = lawful_later q hit (face_at B i) _ h
  changed_cell q opened s h = ⊎_elim (λ n. number_lawful q hit (face_at B i) n) (λ e. mine hit refl e) r
    where
      mine : (t : Bool) → hit ≡ t → face_at B i ≡ 15 → cell_lawful q hit (face_at B i) (face_at B i) ≡ true
      mine true w e =
          subst⁻¹ (λ (t : Bool). cell_lawful q t (face_at B i) (face_at B i) ≡ true) w (subst⁻¹ (λ (f : ℕ). cell_lawful q true f f ≡ true) e (hit_lawful q))
      mine false w e = let z = s (eq-eqb _ _ e) w in absurd (omega arith)
  changed_cell q (wrong w m) s h = subst⁻¹ (λ (t : Bool). cell_lawful q t (face_at B i) 14 ≡ true) w (wrong_lawful q (face_at B i) m)

module _ {B : List ℤ} {hit : Bool} {i : ℕ} where
  changed_touched : {x y : ℕ} → Changed B hit i x y → is_open_or_hit x ≡ true → is_open_or_hit y ≡ true
  changed_touched kept h = h
  changed_touched opened h = absurd (false≢true h)
  changed_touched (wrong w m) h = absurd (false≢true h)

  changed_15 : {x y : ℕ} → Changed B hit i x y → shows 15 x ≡ true → shows 15 y ≡ true
  changed_15 kept h = h
  changed_15 opened h = absurd (false≢true h)
  changed_15 (wrong w m) h = absurd (false≢true h)

-- ---- the whole board -------------------------------------------------------------------------------------------------------------------

module _ (B : List ℤ) (R C : ℕ) (given shown : List ℕ) (v : Valued B) where
  -- a mine that was hit is shown
  pub hit_counted : (refreshed B R C given shown).hit ≡ true → 1 ≤ count_shown (shows 15) (refreshed B R C given shown).shown
  hit_counted h =
      let p = opening_hit_shows B R C given shown h in
      shown_some (shows 15) (refreshed B R C given shown).shown p.0 (rw (opening_length B R C given shown) p.1.0) (eq-eqb _ _ p.1.1.1)

  pub opens_more : count_shown is_open shown ≤ count_shown is_open (refreshed B R C given shown).shown
  opens_more = let g = opening_newly B R C given shown v in omega arith

pub opened_sound : {n m : ℕ} {B : List ℤ} {s : Settings} {c c' : Counts} {k k' : Secrets} {l b : List ℕ} (given : List ℕ) → Sound n B false s c k l b
    → Bounded m c' k' → c'.double + n ≤ c.double + m → c'.flag ≡ c.flag
    → c'.unopened ≡ c.unopened - opened_in l (refreshed B s.rows s.columns given l).shown
    → k'.solved_left + k'.solved_chord ≤ count_shown is_open (refreshed B s.rows s.columns given l).shown
    → Sound m B (refreshed B s.rows s.columns given l).hit s c' k' (refreshed B s.rows s.columns given l).shown b
opened_sound {n} {m} {B} {s} {c} {c'} {k} {k'} {l} {b} given h bd db fl un sv =
    let R : ℕ = s.rows in
    let C : ℕ = s.columns in
    let o : Opened = refreshed B R C given l in
    let v : Valued B = h.ground.mined.valued in
    let len : length o.shown ≡ length l = opening_length B R C given l in
    let ch : (i : ℕ) → Changed B o.hit i (get_or l i 0) (get_or o.shown i 0) = opening_changes B R C given l v in
    let shows : (i : ℕ) → i < length o.shown → cell_lawful s.question o.hit (face_at B i) (get_or o.shown i 0) ≡ true =
    λ i lt. changed_cell (face_range B v i) s.question (ch i) (λ m e. opening_spares B R C given l i m e) (h.cells i (subst (λ (y : ℕ). i < y) len lt)) in
    record {
      ground = record { mined = h.ground.mined; numbers = h.ground.numbers; board = len ∙ h.ground.board; room = h.ground.room };
      bounded = bd;
      double =
          let a = h.double in
          let t = shown_mono is_open_or_hit l o.shown len (λ i _. changed_touched (ch i)) in
          omega arith;
      solved = sv;
      flag = fl ∙ h.flag ∙ sym (shown_same is_flag l o.shown len (λ i _. changed_flags B v o.hit i (ch i)));
      unopened =
          un ∙ ap (λ (k : ℕ). k - opened_in l o.shown) h.unopened
          ∙ unopened_falls B l o.shown len (λ i lt. open_safe _ _ _ _ (h.cells i lt)) (λ i lt. open_safe _ _ _ _ (shows i lt)) (opens_more B R C given l v);
      wrong = wrong_by o.hit refl;
      cells = shows;
      mines = h.mines;
    }
  where
    wrong_by : (t : Bool) → (refreshed B s.rows s.columns given l).hit ≡ t → 1 ≤ count_shown (shows 14) (refreshed B s.rows s.columns given l).shown
        → 1 ≤ count_shown (shows 15) (refreshed B s.rows s.columns given l).shown
    wrong_by true e some = hit_counted B s.rows s.columns given l h.ground.mined.valued e
    wrong_by false e some =
        let v : Valued B = h.ground.mined.valued in
        let len = opening_length B s.rows s.columns given l in
        let a = shown_mono (shows 14) (refreshed B s.rows s.columns given l).shown l (sym len)
        (λ i _. changed_14 (face_range B v i) (opening_changes B s.rows s.columns given l v i) e) in
        let w = h.wrong (omega arith) in
        let z = shown_mono (shows 15) l (refreshed B s.rows s.columns given l).shown len (λ i _. changed_15 (opening_changes B s.rows s.columns given l v i)) in
        omega arith

-- ---- how it ends -----------------------------------------------------------------------------------------------------------------------

-- a mine: Loss; else Win, or still Playing with a safe cell left
pub ended_live : {m : ℕ} {B : List ℤ} {s : Settings} (a : ℕ) (d : Desk) (o : Opened) → d.position.game ≡ Playing → d.position.settings ≡ s
    → Sound m B o.hit d.position.settings (uncovered d o.shown).position.counts d.position.secrets o.shown d.bits
    → (o.hit ≡ true → 1 ≤ count_shown (shows 15) o.shown)
    → d.position.preflags ≤ m → (is_not_flag d.position.mouse ≡ true → 1 ≤ d.position.counts.right)
    → Live m B s (ended a d o).desk
unfolding ended
ended_live {m} {B} {s} a d o g es h hit p r = go o.hit refl (eqb (uncovered d o.shown).position.counts.unopened 0) refl
  where
    sound : (t : Bool) → o.hit ≡ t → Sound m B t d.position.settings (uncovered d o.shown).position.counts d.position.secrets o.shown d.bits
    sound t e = subst (λ (t : Bool). Sound m B t d.position.settings (uncovered d o.shown).position.counts d.position.secrets o.shown d.bits) e h

    won : is_won B o.shown ≡ eqb (uncovered d o.shown).position.counts.unopened 0
    won = won_read B o.shown _ h.unopened

    go : (t : Bool) → o.hit ≡ t → (u : Bool) → eqb (uncovered d o.shown).position.counts.unopened 0 ≡ u
        → Live m B s (pick t (done 4 (on (uncovered d o.shown) (with_game (uncovered d o.shown).position Loss)))
        (pick u (done a (on (uncovered d o.shown) (with_game (uncovered d o.shown).position Win))) (done a (uncovered d o.shown)))).desk
    go true e u w = record { kept = record { sound = sound true e; preflags = p; held = r; phase = tt }; settings = es; told = λ _. hit e }
    go false e true w = record {
      kept = record { sound = sound false e; preflags = p; held = r; phase = won ∙ w };
      settings = es;
      told = λ l. let z : ◌≡◌ {A = ℕ} 0 1 = cc in absurd (omega arith);
    }
    go false e false w = record {
      kept = record {
        sound =
            subst⁻¹ (λ (g : GameState). Sound m B (is_loss g) d.position.settings (uncovered d o.shown).position.counts d.position.secrets o.shown d.bits) g (sound false e);
        preflags = p;
        held = r;
        phase = subst⁻¹ (λ (g : GameState). Phase g d.position.mouse d.position.preflags B o.shown) g (won ∙ w);
      };
      settings = es;
      told = λ l. let z : ◌≡◌ {A = ℕ} 0 1 = cc in absurd (omega arith);
    }
