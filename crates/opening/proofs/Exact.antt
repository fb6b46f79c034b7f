-- Opening opens exactly the reached cells, and that says all of its outcome.
use mathlib.Core.Path.{◌≡◌, refl, ap, ap₂, sym, ◌∙◌}
use mathlib.Core.Bool.{Bool, true, false, false≢true}
use mathlib.Core.List.{List, [], ◌∷◌}
use mathlib.Core.Logic.{◌⊎◌, inl, inr, ⊎_elim}
use Prim.Native.Nat.{ℕ, zero, suc, ◌+◌, ◌*◌, ◌<◌, ◌≤◌}
use native.Mathlib.Omega.{arith}
use borrow.Author.Tests.{eqb-true, eqb-false, eq-eqb, ne_eqb}
use lib.Dec.{eqb}
use lib.ListN.{length, get_or, set}
use lib.Seq.{ext_get_or}
use lib.IntN.{ℤ}
use Rattle.rules.specs.Grid.{neighbour}
use Rattle.rules.specs.Board.{face_at, mine_at}
use Rattle.rules.specs.Opening.{closed_at, shown_after, stack_after, hit_after, run, turns, Opened, count_shown}
use Rattle.rules.specs.Lawful.{shows}
use Rattle.cells.specs.Ground.{Valued}
use Rattle.cells.proofs.Words.{false_unless}
use Rattle.opening.specs.Changed.{In}
use Rattle.opening.specs.Reach.{Reached, start, spread, Opens, Exact}
use Rattle.opening.proofs.Lists.{neighbour_pushed, all_pushed}
use Rattle.opening.proofs.Cases.{shown_open, shown_shut, stack_zero, stack_number, stack_shut, hit_mine, hit_safe, hit_shut, hit_stays}
use Rattle.opening.proofs.Cost.{face_ne, closed_most, cheaper, length_after}
use Rattle.opening.proofs.Opening.{after_opens, after_other, turn_opens, opens_join, in_after, run_due}

-- ---- one outcome --------------------------------------------------------------------------------------------------------------------------

module _ (B : List ℤ) (R C : ℕ) (given shown : List ℕ) (a b : Opened) (p : Exact B R C given shown a) (q : Exact B R C given shown b) where
  same_at : (i : ℕ) → get_or a.shown i 0 ≡ get_or b.shown i 0
  same_at i = go (p.opens i) (q.opens i)
    where
      go : Opens B shown a.shown i → Opens B shown b.shown i → get_or a.shown i 0 ≡ get_or b.shown i 0
      go (inl x) (inl y) = x ∙ sym y
      go (inl x) (inr y) = p.whole i (q.sound i y.0 y.1) ∙ sym y.1
      go (inr x) (inl y) = x.1 ∙ sym (q.whole i (p.sound i x.0 x.1))
      go (inr x) (inr y) = x.1 ∙ sym y.1

  same_hit : a.hit ≡ b.hit
  same_hit = go a.hit b.hit refl refl
    where
      go : (x y : Bool) → a.hit ≡ x → b.hit ≡ y → x ≡ y
      go true true e f = refl
      go true false e f = let s = p.struck e in absurd (false≢true (sym f ∙ q.hits s.0 s.1.0 s.1.1))
      go false true e f = let s = q.struck f in absurd (false≢true (sym e ∙ p.hits s.0 s.1.0 s.1.1))
      go false false e f = refl

  pub exact_one : a ≡ b
  exact_one = ap₂ (λ (s : List ℕ) (h : Bool). record { shown = s; hit = h }) (ext_get_or 0 a.shown b.shown (p.long ∙ sym q.long) (λ i h. same_at i)) same_hit

-- ---- what every turn keeps ----------------------------------------------------------------------------------------------------------------

-- closed no more, where it is now
pub closed_was : (B : List ℤ) → Valued B → (shown shown' : List ℕ) (i : ℕ) → Opens B shown shown' i → closed_at shown' i ≡ true → closed_at shown i ≡ true
closed_was B v shown shown' i (inl p) e = ap (λ (x : ℕ). eqb x 10) (sym p) ∙ e
closed_was B v shown shown' i (inr p) e = eq-eqb _ _ p.0

-- a cell that was closed and is not after a turn was closed at the turn and is the turn's cell, or it was open before
pub turned : (B : List ℤ) (shown : List ℕ) (c i : ℕ) → closed_at (shown_after B shown c) i ≡ false → (closed_at shown i ≡ false) ⊎ ((i ≡ c) × (closed_at shown c ≡ true))
turned B shown c i f = go (closed_at shown i) (eqb i c) refl refl
  where
    go : (a b : Bool) → closed_at shown i ≡ a → eqb i c ≡ b → (closed_at shown i ≡ false) ⊎ ((i ≡ c) × (closed_at shown c ≡ true))
    go false b e d = inl e
    go true true e d = inr (eqb-true i c d, ap (closed_at shown) (sym (eqb-true i c d)) ∙ e)
    go true false e d = absurd (false≢true (sym f ∙ (ap (λ (x : ℕ). eqb x 10) (after_other B shown c i (eqb-false i c d)) ∙ e)))

module _ (B : List ℤ) (R C : ℕ) (v : Valued B) (given shown₀ : List ℕ) where
  -- only reached cells are open that were closed, and a mine was hit exactly if one of them is a mine
  pub record Sure (shown : List ℕ) (hit : Bool) : Type 0 where
    pub long : length shown ≡ length shown₀
    pub opens : (i : ℕ) → Opens B shown₀ shown i
    pub sound : (i : ℕ) → closed_at shown₀ i ≡ true → closed_at shown i ≡ false → Reached B R C given shown₀ i
    pub struck : hit ≡ true → (i : ℕ) × (Reached B R C given shown₀ i × (mine_at B i ≡ true))
    pub hits : (i : ℕ) → closed_at shown₀ i ≡ true → closed_at shown i ≡ false → mine_at B i ≡ true → hit ≡ true

  pub sure_start : Sure shown₀ false
  sure_start =
      record {
        long = refl;
        opens = λ i. inl refl;
        sound = λ i e f. absurd (false≢true (sym f ∙ e));
        struck = λ e. absurd (false≢true e);
        hits = λ i e f. absurd (false≢true (sym f ∙ e));
      }

  pub sure_turn : (shown : List ℕ) (hit : Bool) (c : ℕ) → Sure shown hit → (closed_at shown c ≡ true → Reached B R C given shown₀ c) → Sure (shown_after B shown c) (hit_after B shown c hit)
  sure_turn shown hit c s r =
      record {
        long = length_after B shown c ∙ s.long;
        opens = λ i. opens_join B shown₀ shown (shown_after B shown c) i (s.opens i) (turn_opens B shown c i);
        sound = λ i e f. ⊎_elim (λ o. s.sound i e o) (λ o. rw o.0 (r o.1)) (turned B shown c i f);
        struck = λ h. go (closed_at shown c) (mine_at B c) refl refl h;
        hits = λ i e f m. ⊎_elim (λ o. ap (hit_after B shown c) (s.hits i e o m) ∙ hit_stays B shown c) (λ o. hit_mine B R C shown c hit o.1 (ap (mine_at B) (sym o.0) ∙ m)) (turned B shown c i f);
      }
    where
      go : (a b : Bool) → closed_at shown c ≡ a → mine_at B c ≡ b → hit_after B shown c hit ≡ true → (i : ℕ) × (Reached B R C given shown₀ i × (mine_at B i ≡ true))
      go true true e m h = (c, (r e, m))
      go true false e m h = s.struck (sym (hit_safe B R C shown c hit m) ∙ h)
      go false b e m h = s.struck (sym (hit_shut B R C shown c hit e) ∙ h)

  -- where the given cells are open and an opened 0 has no closed neighbour, all that is reached is open
  module _ (o : Opened) (s : Sure o.shown o.hit) (first : (q : ℕ) → In q given → closed_at shown₀ q ≡ true → closed_at o.shown q ≡ false)
      (free : (c : ℕ) → closed_at shown₀ c ≡ true → closed_at o.shown c ≡ false → face_at B c ≡ 0 → (k : ℕ) → k < 8 → closed_at o.shown (neighbour R C c k) ≡ false) where
    shows_face : (i : ℕ) → closed_at shown₀ i ≡ true → closed_at o.shown i ≡ false → get_or o.shown i 0 ≡ face_at B i
    shows_face i e f = ⊎_elim (λ p. absurd (false≢true (sym f ∙ ap (λ (x : ℕ). eqb x 10) p ∙ e))) (λ p. p.1) (s.opens i)

    reached_open : (i : ℕ) → Reached B R C given shown₀ i → (closed_at shown₀ i ≡ true) × (closed_at o.shown i ≡ false)
    reached_open i (start j e) = (e, first i j e)
    reached_open i (spread {c = c} k r z lt q e) =
        let p = reached_open c r in
        (e, ap (closed_at o.shown) q ∙ free c p.0 p.1 z k lt)

    pub exact_of : Exact B R C given shown₀ o
    exact_of =
        record {
          long = s.long;
          opens = s.opens;
          sound = λ i e f. s.sound i (eq-eqb _ _ e) (ne_eqb _ _ (λ t. face_ne B v i 10 (omega arith) (omega arith) (sym f ∙ t)));
          whole = λ i r. let p = reached_open i r in shows_face i p.0 p.1;
          struck = s.struck;
          hits = λ i r m. let p = reached_open i r in s.hits i p.0 p.1 m;
        }

-- ---- the run of the stack -----------------------------------------------------------------------------------------------------------------

module _ (B : List ℤ) (R C : ℕ) (v : Valued B) (given shown₀ : List ℕ) where
  -- a cell of the stack that was closed is reached
  abbrev Known : List ℕ → Type 0
  Known st = (x : ℕ) → In x st → closed_at shown₀ x ≡ true → Reached B R C given shown₀ x

  known_after : (shown : List ℕ) (hit : Bool) (c : ℕ) (st : List ℕ) → Sure B R C v given shown₀ shown hit → Known (c ∷ st) → Known (stack_after B R C shown c st)
  known_after shown hit c st s k = go (closed_at shown c) (eqb (face_at B c) 0) refl refl
    where
      below : Known st
      below x i e = k x (inr i) e

      go : (a b : Bool) → closed_at shown c ≡ a → eqb (face_at B c) 0 ≡ b → Known (stack_after B R C shown c st)
      go true true e f =
          rw (stack_zero B R C shown c st e (eqb-true _ _ f))
          (all_pushed R C (closed_at (set shown c 0)) c 8 st (λ x. closed_at shown₀ x ≡ true → Reached B R C given shown₀ x)
          (λ j lt p t. spread j (k c (inl refl) (closed_was B v shown₀ shown c (s.opens c) e)) (eqb-true _ _ f) lt refl t) below)
      go true false e f = rw (stack_number B R C shown c st (eqb-false _ _ f)) below
      go false b e f = rw (stack_shut B R C shown c st e) below

  run_sure : (f : ℕ) (st shown : List ℕ) (hit : Bool) → Sure B R C v given shown₀ shown hit → Known st → Sure B R C v given shown₀ (run B R C f st shown hit).shown (run B R C f st shown hit).hit
  unfolding run
  run_sure zero st shown hit s k = s
  run_sure (suc f) [] shown hit s k = s
  run_sure (suc f) (c ∷ st) shown hit s k =
      run_sure f (stack_after B R C shown c st) (shown_after B shown c) (hit_after B shown c hit)
      (sure_turn B R C v given shown₀ shown hit c s (λ e. k c (inl refl) (closed_was B v shown₀ shown c (s.opens c) e)))
      (known_after shown hit c st s k)

  -- the closed neighbours of an opened 0 are on the stack
  abbrev Waiting : List ℕ → List ℕ → Type 0
  Waiting shown st = (x : ℕ) → closed_at shown₀ x ≡ true → closed_at shown x ≡ false → face_at B x ≡ 0 → (k : ℕ) → k < 8 → closed_at shown (neighbour R C x k) ≡ true → In (neighbour R C x k) st

  waiting_after : (shown : List ℕ) (c : ℕ) (st : List ℕ) → Waiting shown (c ∷ st) → Waiting (shown_after B shown c) (stack_after B R C shown c st)
  waiting_after shown c st w x e o z k lt q = go (closed_at shown c) (eqb x c) refl refl
    where
      was : closed_at shown (neighbour R C x k) ≡ true
      was = closed_was B v shown (shown_after B shown c) (neighbour R C x k) (turn_opens B shown c (neighbour R C x k)) q

      other : neighbour R C x k ≡ c → closed_at shown c ≡ true → ⊥
      other m t = face_ne B v c 10 (omega arith) (omega arith) (sym (after_opens B shown c t) ∙ (ap (λ (j : ℕ). get_or (shown_after B shown c) j 0) (sym m) ∙ eqb-true _ _ q))

      go : (a b : Bool) → closed_at shown c ≡ a → eqb x c ≡ b → In (neighbour R C x k) (stack_after B R C shown c st)
      go true true t d =
          let m = eqb-true x c d in
          let z' : face_at B c ≡ 0 = ap (face_at B) (sym m) ∙ z in
          let q' : closed_at (set shown c 0) (neighbour R C c k) ≡ true = ap₂ (λ (s : List ℕ) (j : ℕ). closed_at s (neighbour R C j k)) (ap (set shown c) (sym z') ∙ sym (shown_open B R C shown c t)) (sym m) ∙ q in
          rw (m, stack_zero B R C shown c st t z') (neighbour_pushed R C (closed_at (set shown c 0)) c 8 st k lt q')
      go true false t d =
          let o' : closed_at shown x ≡ false = ap (λ (y : ℕ). eqb y 10) (sym (after_other B shown c x (eqb-false x c d))) ∙ o in
          in_after B R C shown c st (neighbour R C x k) (⊎_elim (λ m. absurd (other m t)) (λ i. i) (w x e o' z k lt was))
      go false b t d =
          let o' : closed_at shown x ≡ false = ap (λ (s : List ℕ). closed_at s x) (sym (shown_shut B R C shown c t)) ∙ o in
          in_after B R C shown c st (neighbour R C x k) (⊎_elim (λ m. absurd (false≢true (sym t ∙ ap (closed_at shown) (sym m) ∙ was))) (λ i. i) (w x e o' z k lt was))

  run_waiting : (f : ℕ) (st shown : List ℕ) (hit : Bool) → length st + 8 * count_shown (shows 10) shown ≤ f → Waiting shown st → Waiting (run B R C f st shown hit).shown []
  unfolding run
  run_waiting zero [] shown hit h w = w
  run_waiting zero (c ∷ st) shown hit h w = absurd (omega arith)
  run_waiting (suc f) [] shown hit h w = w
  run_waiting (suc f) (c ∷ st) shown hit h w =
      run_waiting f (stack_after B R C shown c st) (shown_after B shown c) (hit_after B shown c hit)
      (let ch = cheaper B R C shown c st v in omega (arith, ch.fuel)) (waiting_after shown c st w)

  -- THE RUN IS EXACT
  pub run_exact : length shown₀ ≡ R * C → length given ≤ 8 → Exact B R C given shown₀ (run B R C (turns (R * C)) given shown₀ false)
  run_exact long few =
      exact_of B R C v given shown₀ (run B R C (turns (R * C)) given shown₀ false)
      (run_sure (turns (R * C)) given shown₀ false (sure_start B R C v given shown₀) (λ x i e. start i e))
      (λ q i e. ne_eqb _ _ (λ t. face_ne B v q 10 (omega arith) (omega arith) (sym (run_due B R C v q (turns (R * C)) given shown₀ false room (inr (e, i))).0 ∙ t)))
      (λ c e o z k lt. false_unless _ (λ t. run_waiting (turns (R * C)) given shown₀ false room (λ x e o. absurd (false≢true (sym o ∙ e))) c e o z k lt t))
    where
      room : length given + 8 * count_shown (shows 10) shown₀ ≤ turns (R * C)
      room = let m = closed_most shown₀ in omega arith
