-- Opening is quiet: it shows the board only where its result is known, and two boards that agree there open alike and end alike, since the end
-- reads the number of safe cells still closed, which is seen. Assumes nothing.
use mathlib.Core.Path.{◌≡◌, refl, sym, ap, ◌∙◌}
use mathlib.Core.Logic.{◌⊎◌, inl, inr}
use mathlib.Core.List.{List, [], ◌∷◌}
use mathlib.Core.Bool.{Bool, true, false, not, ◌&&◌, ◌||◌, false≢true}
use Prim.Native.Nat.{ℕ, zero, suc, ◌+◌, ◌*◌, ◌≤◌}
use native.Mathlib.Omega.{arith}
use lib.ListN.{get_or, length, set}
use lib.IntN.{ℤ}
use lib.Dec.{eqb}
use borrow.Author.Tests.{eqb-true}
use Rattle.rules.specs.declared.GameState.TheVariants.{Win, Loss}
use Rattle.rules.specs.Words.{pick}
use Rattle.rules.specs.Grid.{pushed}
use Rattle.rules.specs.Board.{face_at, mine_at}
use Rattle.rules.specs.States.{with_game}
use Rattle.rules.specs.Opening.{closed_at, Opened, shown_after, stack_after, hit_after, run, turns, wrong_flag, crossed, crossed_if_hit, refreshed}
use Rattle.rules.specs.Clicks.{Desk, done, on, uncovered, ends_by, ended}
use Rattle.cells.specs.Ground.{Valued}
use Rattle.opening.proofs.Cost.{face_range}
use Rattle.opening.proofs.Opening.{
  after_opens,
  run_opens,
  Crosses,
  crossed_crosses,
  opening_length,
  opening_keeps_open,
  opening_hit_shows,
}
use Rattle.secrecy.proofs.Quiet.{Hidden, bare, over, a_play, Known, number, wrong, hit, flag, lost_in, Two, Inv, Agree, Quiet}

-- ---- what is known and what is not -------------------------------------------------------------------------------------------------------

pub closed_unknown : {lost : Bool} {x : ℕ} → Known lost x → x ≡ 10 → ⊥
closed_unknown (number l) e = omega arith
closed_unknown (wrong v) e = omega arith
closed_unknown (hit v) e = omega arith
closed_unknown (flag t v) e = omega arith

pub flag_unknown : {x : ℕ} → Known false x → x ≡ 11 → ⊥
flag_unknown (number l) e = omega arith
flag_unknown (wrong v) e = omega arith
flag_unknown (hit v) e = omega arith
flag_unknown (flag t v) e = false≢true t

pub question_unknown : {lost : Bool} {x : ℕ} → Known lost x → x ≡ 17 → ⊥
question_unknown (number l) e = omega arith
question_unknown (wrong v) e = omega arith
question_unknown (hit v) e = omega arith
question_unknown (flag t v) e = omega arith

-- what is known is known in a lost game too
known_lost : {lost : Bool} {x : ℕ} → Known false x → Known lost x
known_lost (number l) = number l
known_lost (wrong v) = wrong v
known_lost (hit v) = hit v
known_lost (flag t v) = absurd (false≢true t)

-- a face that is shown is known
face_known : (B : List ℤ) → Valued B → (i : ℕ) → Known false (face_at B i)
face_known B v i = go (face_range B v i)
  where
    go : (face_at B i ≤ 8) ⊎ (face_at B i ≡ 15) → Known false (face_at B i)
    go (inl l) = number l
    go (inr e) = hit e

-- ---- the stack worked off, and wrong flags shown -----------------------------------------------------------------------------------------

-- a closed cell on top of the stack is known in the end
run_shows : (B : List ℤ) (R C : ℕ) → Valued B → (f i : ℕ) (st shown : List ℕ) (h : Bool) → closed_at shown i ≡ true
    → Known false (get_or (run B R C (suc f) (i ∷ st) shown h).shown i 0)
unfolding run
run_shows B R C v f i st shown h e =
    let next = shown_after B shown i in
    let k : Known false (get_or next i 0) = rw (after_opens B shown i e) (face_known B v i) in
    go (get_or next i 0) k (run_opens B R C f (stack_after B R C shown i st) next (hit_after B shown i h) i)
  where
    go : {y : ℕ} (x : ℕ) → Known false x → (y ≡ x) ⊎ ((x ≡ 10) × (y ≡ face_at B i)) → Known false y
    go x k (inl q) = rw q k
    go x k (inr q) = absurd (closed_unknown k q.0)

-- what is known is not crossed
crossed_known : (B : List ℤ) (o : Opened) (j : ℕ) → Known false (get_or o.shown j 0) → Known false (get_or (crossed_if_hit B o).shown j 0)
crossed_known B o j k = go o.hit
  where
    one : {y : ℕ} (x : ℕ) → Known false x → (y ≡ x) ⊎ ((mine_at B j ≡ false) × ((x ≡ 11) × (y ≡ 14))) → Known false y
    one x k (inl q) = rw q k
    one x k (inr q) = wrong q.1.1

    go : (b : Bool) → Known false (get_or (pick b (crossed B (length o.shown) o.shown) o.shown) j 0)
    go true = one (get_or o.shown j 0) k (crossed_crosses B (length o.shown) o.shown j (omega arith))
    go false = k

-- a flag is known once wrong flags are shown
crossed_flag : (B : List ℤ) (shown : List ℕ) (j : ℕ) → get_or shown j 0 ≡ 11 → Known true (get_or (crossed B (length shown) shown) j 0)
crossed_flag B shown j e = go (crossed_crosses B (length shown) shown j (omega arith))
  where
    go : Crosses B shown (crossed B (length shown) shown) j → Known true (get_or (crossed B (length shown) shown) j 0)
    go (inl q) = flag refl (q ∙ e)
    go (inr q) = wrong q.1.1

-- ---- two boards --------------------------------------------------------------------------------------------------------------------------

module _ (A B : List ℤ) where
  -- a turn reads the board only at a closed cell
  turn_shown : (shown : List ℕ) (i : ℕ) → (closed_at shown i ≡ true → face_at A i ≡ face_at B i) → shown_after A shown i ≡ shown_after B shown i
  unfolding shown_after
  turn_shown shown i e = go (closed_at shown i) e
    where
      go : (b : Bool) → (b ≡ true → face_at A i ≡ face_at B i) → pick b (set shown i (face_at A i)) shown ≡ pick b (set shown i (face_at B i)) shown
      go true e = rw (e refl)
      go false e = refl

  turn_stack : (R C : ℕ) (shown : List ℕ) (i : ℕ) (st : List ℕ) → (closed_at shown i ≡ true → face_at A i ≡ face_at B i)
      → stack_after A R C shown i st ≡ stack_after B R C shown i st
  unfolding stack_after
  turn_stack R C shown i st e = go (closed_at shown i) e
    where
      go : (b : Bool) → (b ≡ true → face_at A i ≡ face_at B i)
          → pick (b && eqb (face_at A i) 0) (pushed R C (closed_at (set shown i 0)) i 8 st) st ≡ pick (b && eqb (face_at B i) 0) (pushed R C (closed_at (set shown i 0)) i 8 st) st
      go true e = rw (e refl)
      go false e = refl

  turn_hit : (shown : List ℕ) (i : ℕ) (h : Bool) → (closed_at shown i ≡ true → face_at A i ≡ face_at B i) → hit_after A shown i h ≡ hit_after B shown i h
  unfolding hit_after
  turn_hit shown i h e = go (closed_at shown i) e
    where
      go : (b : Bool) → (b ≡ true → face_at A i ≡ face_at B i) → ((b && eqb (face_at A i) 15) || h) ≡ ((b && eqb (face_at B i) 15) || h)
      go true e = rw (e refl)
      go false e = refl

  -- boards that agree on what the first run shows run alike
  run_same : (R C : ℕ) → Valued A → (f : ℕ) (st shown : List ℕ) (h : Bool) → Agree A B false (run A R C f st shown h).shown
      → run A R C f st shown h ≡ run B R C f st shown h
  unfolding run
  run_same R C v zero st shown h agree = refl
  run_same R C v (suc f) [] shown h agree = refl
  run_same R C v (suc f) (i ∷ st) shown h agree =
      let e : (closed_at shown i ≡ true → face_at A i ≡ face_at B i) = λ t. agree i (run_shows A R C v f i st shown h t) in
      run_same R C v f (stack_after A R C shown i st) (shown_after A shown i) (hit_after A shown i h) agree
      ∙ rw (turn_shown shown i e, turn_stack R C shown i st e, turn_hit shown i h e)

  -- wrong flags are read at flags alone
  wrong_same : (f g x : ℕ) → (x ≡ 11 → f ≡ g) → wrong_flag f x ≡ wrong_flag g x
  wrong_same f g x e = go (eqb x 11) refl
    where
      go : (b : Bool) → eqb x 11 ≡ b → pick (b && not (eqb f 15)) 14 x ≡ pick (b && not (eqb g 15)) 14 x
      go true d = rw (e (eqb-true x 11 d))
      go false d = refl

  crossed_same : (shown : List ℕ) → ((j : ℕ) → get_or shown j 0 ≡ 11 → face_at A j ≡ face_at B j) → (n : ℕ) → crossed A n shown ≡ crossed B n shown
  unfolding crossed
  crossed_same shown e zero = refl
  crossed_same shown e (suc n) =
      rw (crossed_same shown e n) (ap (λ (v : ℕ). set (crossed B n shown) n v) (wrong_same (face_at A n) (face_at B n) (get_or shown n 0) (e n)))

  opening_same : (R C : ℕ) (given shown : List ℕ) → Valued A → Agree A B (refreshed A R C given shown).hit (refreshed A R C given shown).shown
      → refreshed A R C given shown ≡ refreshed B R C given shown
  unfolding refreshed
  opening_same R C given shown v agree =
      ap (λ (l : List ℕ). record { shown = l; hit = o.hit }) (go o.hit refl)
      ∙ ap (crossed_if_hit B) (run_same R C v (turns (R * C)) given shown false (λ j k. agree j (known_lost (crossed_known A o j k))))
    where
      o : Opened
      o = run A R C (turns (R * C)) given shown false

      at_flag : o.hit ≡ true → (j : ℕ) → get_or o.shown j 0 ≡ 11 → face_at A j ≡ face_at B j
      at_flag e j q = agree j (rw e (crossed_flag A o.shown j q))

      go : (b : Bool) → o.hit ≡ b → pick b (crossed A (length o.shown) o.shown) o.shown ≡ pick b (crossed B (length o.shown) o.shown) o.shown
      go true e = crossed_same o.shown (at_flag e) (length o.shown)
      go false e = refl

-- ---- what an opening leaves --------------------------------------------------------------------------------------------------------------

module _ (B : List ℤ) (v : Valued B) (R C : ℕ) (given shown : List ℕ) where
  opening_knows : {lost : Bool} (j : ℕ) → Known false (get_or shown j 0) → Known lost (get_or (refreshed B R C given shown).shown j 0)
  opening_knows j k = rw (opening_keeps_open B R C given shown v j (closed_unknown k) (flag_unknown k)) (known_lost k)

  -- a single closed cell that is opened is known afterwards
  pub opening_shows : (i : ℕ) → given ≡ i ∷ [] → closed_at shown i ≡ true → Known false (get_or (refreshed B R C given shown).shown i 0)
  unfolding refreshed
  opening_shows i e t = crossed_known B (run B R C (turns (R * C)) given shown false) i (rw (e, a_turn) (run_shows B R C v (8 * (R * C) + 7) i [] shown false t))
    where
      a_turn : turns (R * C) ≡ suc (8 * (R * C) + 7)
      a_turn = omega arith

  opening_inv : Inv B false shown → Inv B (refreshed B R C given shown).hit (refreshed B R C given shown).shown
  opening_inv inv = record {
    long = opening_length B R C given shown ∙ inv.long;
    struck = λ t. let w = opening_hit_shows B R C given shown t in (w.0, w.1.1.1);
  }

-- ---- the end of an opening ---------------------------------------------------------------------------------------------------------------

-- the end leaves the board, is Loss where a mine was hit, and reads nothing hidden
by_shown : (h : Bool) (n : ℕ) (d : Desk) → (ends_by h n d).desk.shown ≡ d.shown
by_shown h n d = go h (eqb d.position.counts.unopened 0)
  where
    go : (h w : Bool) → (pick h (done 4 (on d (with_game d.position Loss))) (pick w (done n (on d (with_game d.position Win))) (done n d))).desk.shown ≡ d.shown
    go true w = refl
    go false true = refl
    go false false = refl

by_lost : (h : Bool) (n : ℕ) (d : Desk) → lost_in d ≡ false → lost_in (ends_by h n d).desk ≡ h
by_lost h n d e = go h (eqb d.position.counts.unopened 0)
  where
    go : (h w : Bool) → lost_in (pick h (done 4 (on d (with_game d.position Loss))) (pick w (done n (on d (with_game d.position Win))) (done n d))).desk ≡ h
    go true w = refl
    go false true = refl
    go false false = e

pub by_answer : (h : Bool) (n : ℕ) (d : Desk) → eqb n 0 ≡ false → eqb (ends_by h n d).answer 0 ≡ false
by_answer h n d e = go h (eqb d.position.counts.unopened 0)
  where
    go : (h w : Bool) → eqb (pick h (done 4 (on d (with_game d.position Loss))) (pick w (done n (on d (with_game d.position Win))) (done n d))).answer 0 ≡ false
    go true w = refl
    go false true = e
    go false false = e

by_bare : (h : Bool) (n : ℕ) (d : Desk) → a_play.put (ends_by h n d) bare ≡ ends_by h n (over d bare)
by_bare h n d = go h (eqb d.position.counts.unopened 0)
  where
    go : (h w : Bool)
        → a_play.put (pick h (done 4 (on d (with_game d.position Loss))) (pick w (done n (on d (with_game d.position Win))) (done n d))) bare
        ≡ pick h (done 4 (on (over d bare) (with_game (over d bare).position Loss))) (pick w (done n (on (over d bare) (with_game (over d bare).position Win))) (done n (over d bare)))
    go true w = refl
    go false true = refl
    go false false = refl

by_same : (h : Bool) (n : ℕ) (d e : Desk) (shown : List ℕ) → over d bare ≡ over e bare
    → a_play.put (ends_by h n (uncovered d shown)) bare ≡ a_play.put (ends_by h n (uncovered e shown)) bare
by_same h n d e shown q =
    by_bare h n (uncovered d shown) ∙ (ap (λ (x : Desk). ends_by h n (uncovered x shown)) q ∙ sym (by_bare h n (uncovered e shown)))

-- cells opened in a game that is not lost; the desk that they are opened on may read the board where the opening shows it
pub ended_quiet : (R C n : ℕ) (given shown : List ℕ) (δ : List ℤ → Hidden → Desk)
    → ((B : List ℤ) (h : Hidden) → lost_in (δ B h) ≡ false)
    → ((A B : List ℤ) (h k : Hidden) → Two A B → Agree A B false (refreshed A R C given shown).shown → over (δ A h) bare ≡ over (δ B k) bare)
    → Quiet a_play false shown (λ B h. ended n (δ B h) (refreshed B R C given shown))
unfolding ended
ended_quiet R C n given shown δ live even = record {
  knows = λ B h v inv j k. rw (ended_shown B h) (opening_knows B v R C given shown j k);
  keeps = λ B h v inv. rw (ended_shown B h, ended_lost B h) (opening_inv B v R C given shown inv);
  same = λ A B h k two ia ib agree.
      let o = refreshed A R C given shown in
      let agree' : Agree A B o.hit o.shown = rw (ended_shown A h, ended_lost A h) at agree in
      let e : o ≡ refreshed B R C given shown = opening_same A B R C given shown two.valued_a agree' in
      by_same o.hit n (δ A h) (δ B k) o.shown (even A B h k two (λ j t. agree' j (known_lost t)))
      ∙ ap (λ (x : Opened). a_play.put (ended n (δ B k) x) bare) e;
}
  where
    ended_shown : (B : List ℤ) (h : Hidden) → (ended n (δ B h) (refreshed B R C given shown)).desk.shown ≡ (refreshed B R C given shown).shown
    ended_shown B h = let o = refreshed B R C given shown in by_shown o.hit n (uncovered (δ B h) o.shown)

    ended_lost : (B : List ℤ) (h : Hidden) → lost_in (ended n (δ B h) (refreshed B R C given shown)).desk ≡ (refreshed B R C given shown).hit
    ended_lost B h = let o = refreshed B R C given shown in by_lost o.hit n (uncovered (δ B h) o.shown) (live B h)
