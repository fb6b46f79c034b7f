-- The cells of a stack: those that a push puts on it, those of the board that pass a test, and one taken out.
use mathlib.Core.Path.{◌≡◌, refl, ap, ap₂, sym, ◌∙◌}
use mathlib.Core.Bool.{Bool, true, false, false≢true}
use mathlib.Core.List.{List, [], ◌∷◌}
use mathlib.Core.Logic.{◌⊎◌, inl, inr, ⊎_elim}
use Prim.Native.Nat.{ℕ, zero, suc, ◌<◌}
use native.Mathlib.Omega.{arith}
use borrow.Author.Tests.{eqb-true, eqb-false}
use lib.Dec.{eqb}
use lib.ListN.{length}
use Rattle.rules.specs.Grid.{neighbour, push_if, cells_if, pushed}
use Rattle.judging.specs.Joining.{In}

module _ (R C : ℕ) (p : ℕ → Bool) (i : ℕ) where
  -- all that is pushed
  pub pushed_all : (P : ℕ → Type 0) (k : ℕ) (st : List ℕ) → ((j : ℕ) → j < k → P (neighbour R C i j)) → ((x : ℕ) → In x st → P x) → (x : ℕ) → In x (pushed R C p i k st) → P x
  unfolding pushed
  pushed_all P zero st r a x m = a x m
  pushed_all P (suc k) st r a x m = go (p (neighbour R C i k)) (λ y. pushed_all P k st (λ j lt. r j (omega arith)) a y) x m
    where
      go : (b : Bool) → ((y : ℕ) → In y (pushed R C p i k st) → P y) → (y : ℕ) → In y (push_if b (neighbour R C i k) (pushed R C p i k st)) → P y
      go true rec y m = ⊎_elim (λ e. rw e (r k (omega arith))) (rec y) m
      go false rec y m = rec y m

  pub pushed_keeps : (k : ℕ) (st : List ℕ) (q : ℕ) → In q st → In q (pushed R C p i k st)
  unfolding pushed
  pushed_keeps zero st q m = m
  pushed_keeps (suc k) st q m = go (p (neighbour R C i k)) (pushed_keeps k st q m)
    where
      go : (b : Bool) → In q (pushed R C p i k st) → In q (push_if b (neighbour R C i k) (pushed R C p i k st))
      go true j = inr j
      go false j = j

  pub pushed_has : (k : ℕ) (st : List ℕ) (j : ℕ) → j < k → p (neighbour R C i j) ≡ true → In (neighbour R C i j) (pushed R C p i k st)
  unfolding pushed
  pushed_has zero st j h e = absurd (omega arith)
  pushed_has (suc k) st j h e = go (p (neighbour R C i k)) (eqb j k) refl refl (λ lt. pushed_has k st j lt e)
    where
      go : (b d : Bool) → p (neighbour R C i k) ≡ b → eqb j k ≡ d → (j < k → In (neighbour R C i j) (pushed R C p i k st))
          → In (neighbour R C i j) (push_if b (neighbour R C i k) (pushed R C p i k st))
      go true true a q rec = inl (ap (neighbour R C i) (eqb-true j k q))
      go true false a q rec = inr (rec (let m = eqb-false j k q in omega arith))
      go false true a q rec = absurd (false≢true (sym a ∙ (rw (eqb-true j k q) at e)))
      go false false a q rec = rec (let m = eqb-false j k q in omega arith)

-- ---- those of the first n cells that pass a test -------------------------------------------------------------------------------------

module _ (p : ℕ → Bool) where
  pub cells_in : (n j : ℕ) → In j (cells_if p n) → (j < n) × (p j ≡ true)
  unfolding cells_if
  cells_in zero j m = absurd m
  cells_in (suc n) j m = go (p n) refl (cells_in n j) m
    where
      later : (j < n) × (p j ≡ true) → (j < suc n) × (p j ≡ true)
      later r = (let h = r.0 in omega arith, r.1)

      go : (b : Bool) → p n ≡ b → (In j (cells_if p n) → (j < n) × (p j ≡ true)) → In j (push_if b n (cells_if p n)) → (j < suc n) × (p j ≡ true)
      go true e rec m = ⊎_elim (λ q. (omega arith, ap p q ∙ e)) (λ s. later (rec s)) m
      go false e rec m = later (rec m)

  pub in_cells : (n j : ℕ) → j < n → p j ≡ true → In j (cells_if p n)
  unfolding cells_if
  in_cells zero j h e = absurd (omega arith)
  in_cells (suc n) j h e = go (p n) (eqb j n) refl refl (λ lt. in_cells n j lt e)
    where
      go : (b d : Bool) → p n ≡ b → eqb j n ≡ d → (j < n → In j (cells_if p n)) → In j (push_if b n (cells_if p n))
      go true true a q rec = inl (eqb-true j n q)
      go true false a q rec = inr (rec (let m = eqb-false j n q in omega arith))
      go false true a q rec = absurd (false≢true (sym a ∙ ap p (sym (eqb-true j n q)) ∙ e))
      go false false a q rec = rec (let m = eqb-false j n q in omega arith)

-- tests that agree below n
pub cells_same : (p q : ℕ → Bool) (n : ℕ) → ((i : ℕ) → i < n → p i ≡ q i) → cells_if p n ≡ cells_if q n
unfolding cells_if
cells_same p q zero h = refl
cells_same p q (suc n) h = ap₂ (λ (b : Bool) (st : List ℕ). push_if b n st) (h n (omega arith)) (cells_same p q n (λ i lt. h i (omega arith)))

-- ---- one taken out -------------------------------------------------------------------------------------------------------------------

-- the others, one fewer
pub record Others (x : ℕ) (l : List ℕ) : Type 0 where
  pub rest : List ℕ
  pub fewer : length l ≡ suc (length rest)
  pub there : (y : ℕ) → In y l → (y ≡ x) ⊎ In y rest

pub others : (x : ℕ) (l : List ℕ) → In x l → Others x l
others x [] m = absurd m
others x (y ∷ l) m = ⊎_elim (λ e. record { rest = l; fewer = refl; there = λ z s. ⊎_elim (λ p. inl (p ∙ sym e)) inr s }) (λ s. go (others x l s)) m
  where
    go : Others x l → Others x (y ∷ l)
    go o = record { rest = y ∷ o.rest; fewer = ap suc o.fewer; there = λ z s. ⊎_elim (λ p. inr (inl p)) (λ t. ⊎_elim inl (λ u. inr (inr u)) (o.there z t)) s }
