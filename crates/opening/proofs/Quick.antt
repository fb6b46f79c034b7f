-- Opening when found has the same outcome as opening when taken off the stack: both open exactly the reached cells.
use mathlib.Core.Path.{◌≡◌, refl, ap, sym, ◌∙◌}
use mathlib.Core.Bool.{Bool, true, false, ◌&&◌, false≢true}
use mathlib.Core.List.{List, [], ◌∷◌}
use mathlib.Core.Logic.{◌⊎◌, inl, inr, ⊎_elim}
use Prim.Native.Nat.{ℕ, zero, suc, ◌+◌, ◌*◌, ◌<◌, ◌≤◌}
use native.Mathlib.Omega.{arith}
use borrow.Author.Tests.{eqb-true, eqb-false, eq-eqb, ne_eqb}
use lib.Dec.{eqb}
use lib.ListN.{length}
use lib.IntN.{ℤ}
use Rattle.rules.specs.Grid.{neighbour, push_if}
use Rattle.rules.specs.Board.{face_at}
use Rattle.rules.specs.Opening.{closed_at, shown_after, hit_after, run, turns, count_shown}
use Rattle.rules.specs.Lawful.{shows}
use Rattle.cells.specs.Ground.{Valued}
use Rattle.cells.proofs.Words.{false_unless}
use Rattle.opening.specs.Changed.{In}
use Rattle.opening.specs.Reach.{Reached, start, spread, Exact}
use Rattle.opening.specs.Quick.{Front, front, touched, touched_around, touched_all, quick, quick_from}
use Rattle.opening.proofs.Cases.{shown_shut}
use Rattle.opening.proofs.Cost.{face_ne, closed_most, closed_after}
use Rattle.opening.proofs.Opening.{after_opens, turn_opens}
use Rattle.opening.proofs.Exact.{exact_one, closed_was, Sure, sure_start, sure_turn, turned, exact_of, run_exact}

-- ---- a cell is touched: case by case ------------------------------------------------------------------------------------------------------

module _ (B : List ℤ) (q : ℕ) (s : Front) where
  pub touched_zero : closed_at s.shown q ≡ true → face_at B q ≡ 0 → (touched B q s).stack ≡ q ∷ s.stack
  unfolding touched
  touched_zero e z = simp (e, eq-eqb _ _ z)

  pub touched_number : (face_at B q ≡ 0 → ⊥) → (touched B q s).stack ≡ s.stack
  unfolding touched
  touched_number z = go (closed_at s.shown q)
    where
      go : (b : Bool) → push_if (b && eqb (face_at B q) 0) q s.stack ≡ s.stack
      go true = rw (ne_eqb _ _ z)
      go false = refl

  pub touched_shut : closed_at s.shown q ≡ false → (touched B q s).stack ≡ s.stack
  unfolding touched
  touched_shut e = rw e

  pub touched_shown : (touched B q s).shown ≡ shown_after B s.shown q
  unfolding touched
  touched_shown = refl

  pub touched_hit : (touched B q s).hit ≡ hit_after B s.shown q s.hit
  unfolding touched
  touched_hit = refl

-- stack and closed cells together never grow
pub touched_cost : (B : List ℤ) → Valued B → (q : ℕ) (s : Front)
    → length (touched B q s).stack + count_shown (shows 10) (touched B q s).shown ≤ length s.stack + count_shown (shows 10) s.shown
touched_cost B v q s = go (closed_at s.shown q) (eqb (face_at B q) 0) refl refl
  where
    go : (a b : Bool) → closed_at s.shown q ≡ a → eqb (face_at B q) 0 ≡ b
        → length (touched B q s).stack + count_shown (shows 10) (touched B q s).shown ≤ length s.stack + count_shown (shows 10) s.shown
    go true true e z =
        let c = closed_after B s.shown q v e in
        rw (touched_zero B q s e (eqb-true _ _ z), touched_shown B q s) (omega arith)
    go true false e z =
        let c = closed_after B s.shown q v e in
        rw (touched_number B q s (eqb-false _ _ z), touched_shown B q s) (omega arith)
    go false b e z = rw (touched_shut B q s e, touched_shown B q s, shown_shut B 0 0 s.shown q e) (omega arith)

pub around_cost : (B : List ℤ) → Valued B → (R C c n : ℕ) (s : Front)
    → length (touched_around B R C c n s).stack + count_shown (shows 10) (touched_around B R C c n s).shown ≤ length s.stack + count_shown (shows 10) s.shown
unfolding touched_around
around_cost B v R C c zero s = omega arith
around_cost B v R C c (suc n) s = omega (arith, touched_cost B v (neighbour R C c n) (touched_around B R C c n s), around_cost B v R C c n s)

pub all_cost : (B : List ℤ) → Valued B → (given : List ℕ) (s : Front)
    → length (touched_all B given s).stack + count_shown (shows 10) (touched_all B given s).shown ≤ length s.stack + count_shown (shows 10) s.shown
unfolding touched_all
all_cost B v [] s = omega arith
all_cost B v (q ∷ given) s = omega (arith, touched_cost B v q (touched_all B given s), all_cost B v given s)

-- ---- what is kept -------------------------------------------------------------------------------------------------------------------------

module _ (B : List ℤ) (R C : ℕ) (v : Valued B) (given shown₀ : List ℕ) where
  -- a cell that is open stays open, and a touched one is
  stays_open : (shown : List ℕ) (c i : ℕ) → closed_at shown i ≡ false → closed_at (shown_after B shown c) i ≡ false
  stays_open shown c i o = false_unless _ (λ t. false≢true (sym o ∙ closed_was B v shown (shown_after B shown c) i (turn_opens B shown c i) t))

  open_after : (shown : List ℕ) (c : ℕ) → closed_at (shown_after B shown c) c ≡ false
  open_after shown c = go (closed_at shown c) refl
    where
      go : (b : Bool) → closed_at shown c ≡ b → closed_at (shown_after B shown c) c ≡ false
      go true e = ne_eqb _ _ (λ t. face_ne B v c 10 (omega arith) (omega arith) (sym (after_opens B shown c e) ∙ t))
      go false e = stays_open shown c c e

  -- no neighbour of the cell is closed
  abbrev Free : List ℕ → ℕ → Type 0
  Free shown x = (k : ℕ) → k < 8 → closed_at shown (neighbour R C x k) ≡ false

  -- the cells of done are open; an opened 0 is one of those that P names, or on the stack, or has no closed neighbour
  pub record Spread (done : List ℕ) (P : ℕ → Type 0) (s : Front) : Type 0 where
    pub sure : Sure B R C v given shown₀ s.shown s.hit
    pub good : (x : ℕ) → In x s.stack → Reached B R C given shown₀ x × (face_at B x ≡ 0)
    pub first : (x : ℕ) → In x done → closed_at s.shown x ≡ false
    pub pend : (x : ℕ) → closed_at shown₀ x ≡ true → closed_at s.shown x ≡ false → face_at B x ≡ 0 → P x ⊎ (In x s.stack ⊎ Free s.shown x)

  module _ (done : List ℕ) (P : ℕ → Type 0) (s : Front) (q : ℕ) (i : Spread done P s) (r : closed_at s.shown q ≡ true → Reached B R C given shown₀ q) where
    good_next : (x : ℕ) → In x (touched B q s).stack → Reached B R C given shown₀ x × (face_at B x ≡ 0)
    good_next x j = go (closed_at s.shown q) (eqb (face_at B q) 0) refl refl
      where
        go : (a b : Bool) → closed_at s.shown q ≡ a → eqb (face_at B q) 0 ≡ b → Reached B R C given shown₀ x × (face_at B x ≡ 0)
        go true true e z =
            let j' : In x (q ∷ s.stack) = rw (touched_zero B q s e (eqb-true _ _ z)) at j in
            ⊎_elim (λ m. rw m (r e, eqb-true _ _ z)) (λ k. i.good x k) j'
        go true false e z = i.good x (rw (touched_number B q s (eqb-false _ _ z)) at j)
        go false b e z = i.good x (rw (touched_shut B q s e) at j)

    in_next : (x : ℕ) → In x s.stack → In x (touched B q s).stack
    in_next x j = go (closed_at s.shown q) (eqb (face_at B q) 0) refl refl
      where
        go : (a b : Bool) → closed_at s.shown q ≡ a → eqb (face_at B q) 0 ≡ b → In x (touched B q s).stack
        go true true e z = rw (touched_zero B q s e (eqb-true _ _ z)) (inr j)
        go true false e z = rw (touched_number B q s (eqb-false _ _ z)) j
        go false b e z = rw (touched_shut B q s e) j

    pend_next : (x : ℕ) → closed_at shown₀ x ≡ true → closed_at (shown_after B s.shown q) x ≡ false → face_at B x ≡ 0 → P x ⊎ (In x (touched B q s).stack ⊎ Free (shown_after B s.shown q) x)
    pend_next x e o z =
        ⊎_elim
        (λ b. ⊎_elim (λ p. inl p) (⊎_elim (λ j. inr (inl (in_next x j))) (λ f. inr (inr (λ k lt. stays_open s.shown q (neighbour R C x k) (f k lt))))) (i.pend x e b z))
        (λ b. inr (inl (rw (touched_zero B q s b.1 (ap (face_at B) (sym b.0) ∙ z)) (inl b.0))))
        (turned B s.shown q x o)

    pub spread_touched : Spread done P (touched B q s)
    unfolding touched
    spread_touched =
        record {
          sure = sure_turn B R C v given shown₀ s.shown s.hit q i.sure r;
          good = good_next;
          first = λ x j. stays_open s.shown q x (i.first x j);
          pend = pend_next;
        }

  -- the neighbours of a reached 0
  module _ (done : List ℕ) (P : ℕ → Type 0) (s : Front) (c : ℕ) (i : Spread done P s) (r : Reached B R C given shown₀ c) (z : face_at B c ≡ 0) where
    spread_around : (n : ℕ) → n ≤ 8 → Spread done P (touched_around B R C c n s)
    unfolding touched_around
    spread_around zero h = i
    spread_around (suc n) h =
        let t = spread_around n (omega arith) in
        spread_touched done P (touched_around B R C c n s) (neighbour R C c n) t
        (λ e. spread n r z (omega arith) refl (closed_was B v shown₀ (touched_around B R C c n s).shown (neighbour R C c n) (t.sure.opens (neighbour R C c n)) e))

  around_free : (s : Front) (c n j : ℕ) → j < n → closed_at (touched_around B R C c n s).shown (neighbour R C c j) ≡ false
  unfolding touched_around
  around_free s c zero j h = absurd (omega arith)
  around_free s c (suc n) j h = go (eqb j n) refl (λ lt. around_free s c n j lt)
    where
      go : (b : Bool) → eqb j n ≡ b → (j < n → closed_at (touched_around B R C c n s).shown (neighbour R C c j) ≡ false)
          → closed_at (touched B (neighbour R C c n) (touched_around B R C c n s)).shown (neighbour R C c j) ≡ false
      go true d rec = rw (touched_shown B (neighbour R C c n) (touched_around B R C c n s), eqb-true j n d) (open_after (touched_around B R C c n s).shown (neighbour R C c n))
      go false d rec =
          rw (touched_shown B (neighbour R C c n) (touched_around B R C c n s))
          (stays_open (touched_around B R C c n s).shown (neighbour R C c n) (neighbour R C c j) (rec (let k = eqb-false j n d in omega arith)))

  abbrev None : ℕ → Type 0
  None x = ⊥

  spread_turn : (done : List ℕ) (c : ℕ) (st shown : List ℕ) (hit : Bool) → Spread done None (front (c ∷ st) shown hit) → Spread done None (touched_around B R C c 8 (front st shown hit))
  spread_turn done c st shown hit i =
      record {
        sure = t.sure;
        good = t.good;
        first = t.first;
        pend = λ x e o z. ⊎_elim (λ m. inr (inr (λ k lt. rw m (around_free (front st shown hit) c 8 k lt)))) (λ p. inr p) (t.pend x e o z);
      }
    where
      but : Spread done (λ x. x ≡ c) (front st shown hit)
      but =
          record {
            sure = i.sure;
            good = λ x j. i.good x (inr j);
            first = i.first;
            pend = λ x e o z. ⊎_elim (λ p. absurd p) (⊎_elim (⊎_elim (λ m. inl m) (λ j. inr (inl j))) (λ f. inr (inr f))) (i.pend x e o z);
          }

      t : Spread done (λ x. x ≡ c) (touched_around B R C c 8 (front st shown hit))
      t = spread_around done (λ x. x ≡ c) (front st shown hit) c but (i.good c (inl refl)).0 (i.good c (inl refl)).1 8 (omega arith)

  spread_end : (shown : List ℕ) (hit : Bool) → Spread given None (front [] shown hit) → Exact B R C given shown₀ (record { shown = shown; hit = hit })
  spread_end shown hit i =
      exact_of B R C v given shown₀ (record { shown = shown; hit = hit }) i.sure (λ q j e. i.first q j)
      (λ c e o z. ⊎_elim (λ p. absurd p) (⊎_elim (λ j. absurd j) (λ f. f)) (i.pend c e o z))

  quick_exact : (f : ℕ) (st shown : List ℕ) (hit : Bool) → length st + count_shown (shows 10) shown ≤ f → Spread given None (front st shown hit) → Exact B R C given shown₀ (quick B R C f st shown hit)
  unfolding quick
  quick_exact zero [] shown hit h i = spread_end shown hit i
  quick_exact zero (c ∷ st) shown hit h i = absurd (omega arith)
  quick_exact (suc f) [] shown hit h i = spread_end shown hit i
  quick_exact (suc f) (c ∷ st) shown hit h i =
      let t = touched_around B R C c 8 (front st shown hit) in
      quick_exact f t.stack t.shown t.hit (omega (arith, around_cost B v R C c 8 (front st shown hit))) (spread_turn done' c st shown hit i)
    where
      done' : List ℕ
      done' = given

  spread_all : (some : List ℕ) → ((x : ℕ) → In x some → In x given) → Spread some None (touched_all B some (front [] shown₀ false))
  unfolding touched_all
  spread_all [] g =
      record {
        sure = sure_start B R C v given shown₀;
        good = λ x j. absurd j;
        first = λ x j. absurd j;
        pend = λ x e o z. absurd (false≢true (sym o ∙ e));
      }
  spread_all (q ∷ some) g =
      let b = spread_all some (λ x j. g x (inr j)) in
      let t = spread_touched some None (touched_all B some (front [] shown₀ false)) q b
      (λ e. start (g q (inl refl)) (closed_was B v shown₀ (touched_all B some (front [] shown₀ false)).shown q (b.sure.opens q) e)) in
      record {
        sure = t.sure;
        good = t.good;
        first = λ x j. ⊎_elim (λ m. ap (closed_at (touched B q (touched_all B some (front [] shown₀ false))).shown) m ∙ rw (touched_shown B q (touched_all B some (front [] shown₀ false))) (open_after (touched_all B some (front [] shown₀ false)).shown q)) (λ k. t.first x k) j;
        pend = t.pend;
      }

  -- THE SAME OUTCOME
  pub quick_same : length shown₀ ≡ R * C → length given ≤ 8
      → quick_from B R C (R * C) (touched_all B given (front [] shown₀ false)) ≡ run B R C (turns (R * C)) given shown₀ false
  quick_same long few =
      let s = touched_all B given (front [] shown₀ false) in
      exact_one B R C given shown₀ (quick_from B R C (R * C) (touched_all B given (front [] shown₀ false))) (run B R C (turns (R * C)) given shown₀ false)
      (quick_exact (R * C) s.stack s.shown s.hit (let m = closed_most shown₀ in omega (arith, all_cost B v given (front [] shown₀ false))) (spread_all given (λ x j. j)))
      (run_exact B R C v given shown₀ long few)
