-- Laws of counting, of stored lists, and of cells on a stack.
use mathlib.Core.Path.{◌≡◌, refl, ap, sym, ◌∙◌}
use mathlib.Core.Bool.{Bool, true, false, false≢true}
use mathlib.Core.List.{List}
use mathlib.Core.Logic.{inl, inr, ⊎_elim}
use Prim.Native.Nat.{ℕ, zero, suc, ◌+◌, ◌<◌}
use native.Mathlib.Omega.{arith}
use borrow.Author.Tests.{eqb-true, eqb-false}
use lib.Dec.{eqb}
use lib.ListN.{length, get_or, set, length-set}
use lib.Seq.{get_or-set_same, get_or-set_other}
use Rattle.rules.specs.Words.{bit, count}
use Rattle.rules.specs.Grid.{neighbour, push_if, pushed}
use Rattle.rules.specs.Opening.{count_shown}
use Rattle.cells.proofs.Words.{count_mono, count_change}
use Rattle.opening.specs.Changed.{In}

-- what adds up at each place adds up
pub count_sum : (f g f' g' : ℕ → Bool) (n : ℕ) → ((i : ℕ) → i < n → bit (f i) + bit (g i) ≡ bit (f' i) + bit (g' i)) → count f n + count g n ≡ count f' n + count g' n
unfolding count
count_sum f g f' g' zero e = refl
count_sum f g f' g' (suc n) e = omega (arith, count_sum f g f' g' n (λ i h. e i (omega arith)), e n (omega arith))

-- fewer, where one place is lost and none is won
pub count_less : (f g : ℕ → Bool) (n i : ℕ) → i < n → f i ≡ false → g i ≡ true → ((j : ℕ) → j < n → f j ≡ true → g j ≡ true) → count f n < count g n
unfolding count
count_less f g zero i h a b e = absurd (omega arith)
count_less f g (suc n) i h a b e = go (eqb i n) refl (λ lt. count_less f g n i lt a b (λ j k. e j (omega arith)))
  where
    step : (x y : Bool) → (x ≡ true → y ≡ true) → count f n < count g n → count f n + bit x < count g n + bit y
    step true true h l = omega arith
    step true false h l = absurd (false≢true (h refl))
    step false y h l = omega arith

    go : (c : Bool) → eqb i n ≡ c → (i < n → count f n < count g n) → count f n + bit (f n) < count g n + bit (g n)
    go true d rec =
        let p : bit (f n) ≡ 0 = ap (λ (k : ℕ). bit (f k)) (sym (eqb-true i n d)) ∙ ap bit a in
        let q : bit (g n) ≡ 1 = ap (λ (k : ℕ). bit (g k)) (sym (eqb-true i n d)) ∙ ap bit b in
        let l = count_mono f g n (λ j k. e j (omega arith)) in
        omega arith
    go false d rec = step (f n) (g n) (e n (omega arith)) (rec (let k = eqb-false i n d in omega arith))

-- what is on the stack stays on it when more is pushed
pub in_pushed : (R C : ℕ) (p : ℕ → Bool) (c k : ℕ) (st : List ℕ) (q : ℕ) → In q st → In q (pushed R C p c k st)
unfolding pushed
in_pushed R C p c zero st q i = i
in_pushed R C p c (suc k) st q i = go (p (neighbour R C c k)) (in_pushed R C p c k st q i)
  where
    go : (b : Bool) → In q (pushed R C p c k st) → In q (push_if b (neighbour R C c k) (pushed R C p c k st))
    go true j = inr j
    go false j = j

-- a neighbour that passes the test is pushed
pub neighbour_pushed : (R C : ℕ) (p : ℕ → Bool) (c k : ℕ) (st : List ℕ) (j : ℕ) → j < k → p (neighbour R C c j) ≡ true → In (neighbour R C c j) (pushed R C p c k st)
unfolding pushed
neighbour_pushed R C p c zero st j h e = absurd (omega arith)
neighbour_pushed R C p c (suc k) st j h e = go (p (neighbour R C c k)) (eqb j k) refl refl (λ lt. neighbour_pushed R C p c k st j lt e)
  where
    go : (b d : Bool) → p (neighbour R C c k) ≡ b → eqb j k ≡ d → (j < k → In (neighbour R C c j) (pushed R C p c k st))
        → In (neighbour R C c j) (push_if b (neighbour R C c k) (pushed R C p c k st))
    go true true t q rec = inl (ap (neighbour R C c) (eqb-true j k q))
    go true false t q rec = inr (rec (let m = eqb-false j k q in omega arith))
    go false true t q rec = absurd (false≢true (sym t ∙ (rw (eqb-true j k q) at e)))
    go false false t q rec = rec (let m = eqb-false j k q in omega arith)

-- a law of the stack and of each neighbour that is pushed is one of the stack after
pub all_pushed : (R C : ℕ) (p : ℕ → Bool) (c k : ℕ) (st : List ℕ) (P : ℕ → Type 0) → ((j : ℕ) → j < k → p (neighbour R C c j) ≡ true → P (neighbour R C c j))
    → ((x : ℕ) → In x st → P x) → (x : ℕ) → In x (pushed R C p c k st) → P x
unfolding pushed
all_pushed R C p c zero st P r a x i = a x i
all_pushed R C p c (suc k) st P r a x i = go (p (neighbour R C c k)) refl (λ y. all_pushed R C p c k st P (λ j lt. r j (omega arith)) a y) x i
  where
    go : (b : Bool) → p (neighbour R C c k) ≡ b → ((y : ℕ) → In y (pushed R C p c k st) → P y)
        → (y : ℕ) → In y (push_if b (neighbour R C c k) (pushed R C p c k st)) → P y
    go true e rec y i = ⊎_elim (λ q. rw q (r k (omega arith) e)) (rec y) i
    go false e rec y i = rec y i

-- a cell that is stored to: what was counted there, and what is now
pub count_shown_set : (f : ℕ → Bool) (shown : List ℕ) (i v : ℕ) → i < length shown → count_shown f (set shown i v) + bit (f (get_or shown i 0)) ≡ count_shown f shown + bit (f v)
unfolding count_shown
count_shown_set f shown i v h =
    let n : count (λ j. f (get_or (set shown i v) j 0)) (length (set shown i v)) ≡ count (λ j. f (get_or (set shown i v) j 0)) (length shown) =
    ap (count (λ j. f (get_or (set shown i v) j 0))) (length-set shown i v) in
    let e : f (get_or (set shown i v) i 0) ≡ f v = ap f (get_or-set_same shown i v 0 h) in
    let c = count_change (λ j. f (get_or shown j 0)) (λ j. f (get_or (set shown i v) j 0)) i (λ j d. ap f (get_or-set_other shown i j v 0 d)) (length shown) h in
    let b : bit (f (get_or (set shown i v) i 0)) ≡ bit (f v) = ap bit e in
    omega arith
