-- The Rust's loop has the same outcome: an open 0 on top of the stack has no closed neighbour, so its second opening changes nothing.
use mathlib.Core.Path.{◌≡◌, refl, ap, sym, ◌∙◌}
use mathlib.Core.Bool.{Bool, true, false, ◌||◌, false≢true, or-true}
use mathlib.Core.List.{List, [], ◌∷◌}
use mathlib.Core.Logic.{inl, inr, ⊎_elim}
use Prim.Native.Nat.{ℕ, zero, suc, ◌*◌, ◌<◌}
use native.Mathlib.Omega.{arith}
use borrow.Author.Tests.{eqb-true, eqb-false, eq-eqb}
use lib.Dec.{eqb}
use lib.ListN.{length, get_or, set}
use lib.Seq.{get_or-set_same, get_or-set_other, set-get_or}
use lib.IntN.{ℤ}
use Rattle.rules.specs.Words.{pick}
use Rattle.rules.specs.Grid.{neighbour, push_if, pushed}
use Rattle.rules.specs.Board.{face_at}
use Rattle.rules.specs.Opening.{closed_at, shown_after, stack_after, hit_after, run, turns}
use Rattle.cells.specs.Ground.{Valued}
use Rattle.opening.specs.Changed.{In}
use Rattle.opening.specs.Rust.{rust_stack, rust_run}
use Rattle.opening.proofs.Cases.{closed_in, shown_open, shown_shut, stack_zero, stack_number, stack_shut, hit_shut}
use Rattle.opening.proofs.Cost.{face_ne}

ap₃ : {A B C D : Type 0} (f : A → B → C → D) {a a' : A} {b b' : B} {c c' : C} → a ≡ a' → b ≡ b' → c ≡ c' → f a b c ≡ f a' b' c'
ap₃ f p q r = cc

-- a cell of the stack is closed, or open with its closed neighbours among the cells above it
pub data Fine (B : List ℤ) (R C : ℕ) (shown : List ℕ) (hit : Bool) (ab : List ℕ) (c : ℕ) : Type 0 where
  shut : closed_at shown c ≡ true → Fine B R C shown hit ab c
  open' : get_or shown c 0 ≡ face_at B c → (face_at B c ≡ 15 → hit ≡ true)
      → (face_at B c ≡ 0 → (k : ℕ) → k < 8 → closed_at shown (neighbour R C c k) ≡ true → In (neighbour R C c k) ab)
      → Fine B R C shown hit ab c

abbrev pub Stacked : List ℤ → ℕ → ℕ → List ℕ → Bool → List ℕ → List ℕ → Type 0
Stacked B R C shown hit ab [] = Unit {0}
Stacked B R C shown hit ab (c ∷ st) = Fine B R C shown hit ab c × Stacked B R C shown hit (c ∷ ab) st

-- a cell other than the one that is stored to is closed as before
closed_other : (shown : List ℕ) (c v x : ℕ) → (x ≡ c → ⊥) → closed_at (set shown c v) x ≡ closed_at shown x
closed_other shown c v x n = ap (λ (y : ℕ). eqb y 10) (get_or-set_other shown c x v 0 n)

closed_self : (shown : List ℕ) (c v : ℕ) → (v ≡ 10 → ⊥) → c < length shown → closed_at (set shown c v) c ≡ true → ⊥
closed_self shown c v n h e = n (sym (get_or-set_same shown c v 0 h) ∙ eqb-true _ _ e)

-- closed after a store that closes nothing: another cell, and closed before
pub closed_back : (shown : List ℕ) (c v q : ℕ) → (v ≡ 10 → ⊥) → c < length shown → closed_at (set shown c v) q ≡ true → (q ≡ c → ⊥) × (closed_at shown q ≡ true)
closed_back shown c v q n h e =
    let d : q ≡ c → ⊥ = λ p. closed_self shown c v n h (rw p at e) in
    (d, sym (closed_other shown c v q d) ∙ e)

-- fewer cells above, where those that go are not closed
weaken : (B : List ℤ) (R C : ℕ) (shown : List ℕ) (hit : Bool) (ab ab' : List ℕ) (st : List ℕ)
    → ((q : ℕ) → closed_at shown q ≡ true → In q ab → In q ab') → Stacked B R C shown hit ab st → Stacked B R C shown hit ab' st
weaken B R C shown hit ab ab' [] f s = tt
weaken B R C shown hit ab ab' (c ∷ st) f s =
    (fine s.0, weaken B R C shown hit (c ∷ ab) (c ∷ ab') st (λ q e. ⊎_elim (λ i. inl i) (λ i. inr (f q e i))) s.1)
  where
    fine : Fine B R C shown hit ab c → Fine B R C shown hit ab' c
    fine (shut e) = shut e
    fine (open' o h n) = open' o h (λ z k lt e. f _ e (n z k lt e))

module _ (B : List ℤ) (R C : ℕ) (shown : List ℕ) (hit : Bool) (c : ℕ) (e : closed_at shown c ≡ true) (n : face_at B c ≡ 10 → ⊥) where
  -- the stack below stays so when a closed cell is stacked-opened
  stacked_opened : (ab ab' st : List ℕ)
      → ((q : ℕ) → closed_at (set shown c (face_at B c)) q ≡ true → In q ab → In q ab')
      → (face_at B c ≡ 0 → (k : ℕ) → k < 8 → closed_at (set shown c (face_at B c)) (neighbour R C c k) ≡ true → In (neighbour R C c k) ab')
      → Stacked B R C shown hit ab st
      → Stacked B R C (set shown c (face_at B c)) (eqb (face_at B c) 15 || hit) ab' st
  stacked_opened ab ab' [] f g s = tt
  stacked_opened ab ab' (x ∷ st) f g s =
      (fine (eqb x c) refl s.0, stacked_opened (x ∷ ab) (x ∷ ab') st (λ q d. ⊎_elim (λ i. inl i) (λ i. inr (f q d i))) (λ z k lt d. inr (g z k lt d)) s.1)
    where
      room : c < length shown
      room = closed_in shown c e

      here : Fine B R C (set shown c (face_at B c)) (eqb (face_at B c) 15 || hit) ab' c
      here = open' (get_or-set_same shown c (face_at B c) 0 room) (λ m. rw (eq-eqb _ _ m)) g

      fine : (b : Bool) → eqb x c ≡ b → Fine B R C shown hit ab x → Fine B R C (set shown c (face_at B c)) (eqb (face_at B c) 15 || hit) ab' x
      fine true d a = rw (eqb-true x c d) here
      fine false d (shut a) = shut (closed_other shown c (face_at B c) x (eqb-false x c d) ∙ a)
      fine false d (open' o h m) =
          open' (get_or-set_other shown c x (face_at B c) 0 (eqb-false x c d) ∙ o) (λ z. rw (h z) (or-true (eqb (face_at B c) 15))) (λ z k lt a. f (neighbour R C x k) a (m z k lt (closed_back shown c (face_at B c) (neighbour R C x k) n room a).1))

-- the cells that are stacked-pushed are closed, and stand above the rest
module _ (B : List ℤ) (R C c : ℕ) (sh : List ℕ) (h : Bool) (st : List ℕ) where
  -- the stack below, with the closed ones of the first k neighbours and all of ab above it
  abbrev Under : ℕ → List ℕ → Type 0
  Under k ab =
      (ab' : List ℕ) → ((j : ℕ) → j < k → closed_at sh (neighbour R C c j) ≡ true → In (neighbour R C c j) ab') → ((q : ℕ) → In q ab → In q ab')
      → Stacked B R C sh h ab' st

  upto : (k : ℕ) (ab : List ℕ) → ((j : ℕ) → j < k → closed_at sh (neighbour R C c j) ≡ true → In (neighbour R C c j) ab)
      → (closed_at sh (neighbour R C c k) ≡ true → In (neighbour R C c k) ab)
      → (j : ℕ) → j < suc k → closed_at sh (neighbour R C c j) ≡ true → In (neighbour R C c j) ab
  upto k ab f g j lt = go (eqb j k) refl
    where
      go : (b : Bool) → eqb j k ≡ b → closed_at sh (neighbour R C c j) ≡ true → In (neighbour R C c j) ab
      go true e d = rw (eqb-true j k e) (g (rw (eqb-true j k e) at d))
      go false e d = f j (let n = eqb-false j k e in omega arith) d

  push_one : (k : ℕ) (ab : List ℕ) (b : Bool) → closed_at sh (neighbour R C c k) ≡ b → Under (suc k) ab
      → ((ab' : List ℕ) → Under k ab' → Stacked B R C sh h ab' (pushed R C (closed_at sh) c k st))
      → Stacked B R C sh h ab (push_if b (neighbour R C c k) (pushed R C (closed_at sh) c k st))
  push_one k ab true e K rec = (shut e, rec (neighbour R C c k ∷ ab) (λ ab' f g. K ab' (upto k ab' f (λ d. g (neighbour R C c k) (inl refl))) (λ q i. g q (inr i))))
  push_one k ab false e K rec = rec ab (λ ab' f g. K ab' (upto k ab' f (λ d. absurd (false≢true (sym e ∙ d)))) g)

  stacked_pushed : (k : ℕ) (ab : List ℕ) → Under k ab → Stacked B R C sh h ab (pushed R C (closed_at sh) c k st)
  unfolding pushed
  stacked_pushed zero ab K = K ab (λ j lt. absurd (omega arith)) (λ q i. i)
  stacked_pushed (suc k) ab K = push_one k ab (closed_at sh (neighbour R C c k)) refl K (λ ab' K'. stacked_pushed k ab' K')

-- nothing is stacked-pushed where no neighbour is closed
push_none : (R C : ℕ) (sh : List ℕ) (c k : ℕ) (st : List ℕ) → ((j : ℕ) → j < k → closed_at sh (neighbour R C c j) ≡ true → ⊥) → pushed R C (closed_at sh) c k st ≡ st
unfolding pushed
push_none R C sh c zero st f = refl
push_none R C sh c (suc k) st f = go (closed_at sh (neighbour R C c k)) (f k (omega arith)) ∙ push_none R C sh c k st (λ j lt. f j (omega arith))
  where
    go : (b : Bool) → (b ≡ true → ⊥) → push_if b (neighbour R C c k) (pushed R C (closed_at sh) c k st) ≡ pushed R C (closed_at sh) c k st
    go true g = absurd (g refl)
    go false g = refl

-- a closed cell: both loops take the same turn
module _ (B : List ℤ) (R C c : ℕ) (shown st : List ℕ) (hit : Bool) where
  stack_both : closed_at shown c ≡ true → rust_stack B R C shown c st ≡ stack_after B R C shown c st
  stack_both e = go (eqb (face_at B c) 0) refl
    where
      go : (b : Bool) → eqb (face_at B c) 0 ≡ b → pick b (pushed R C (closed_at (set shown c (face_at B c))) c 8 st) st ≡ stack_after B R C shown c st
      go true z = ap (λ (x : ℕ). pushed R C (closed_at (set shown c x)) c 8 st) (eqb-true _ _ z) ∙ sym (stack_zero B R C shown c st e (eqb-true _ _ z))
      go false z = sym (stack_number B R C shown c st (eqb-false _ _ z))

  hit_both : closed_at shown c ≡ true → (eqb (face_at B c) 15 || hit) ≡ hit_after B shown c hit
  unfolding hit_after
  hit_both e = rw e

  -- an open cell with no closed cell above it: the Rust's turn changes nothing
  hit_again : (face_at B c ≡ 15 → hit ≡ true) → (eqb (face_at B c) 15 || hit) ≡ hit
  hit_again h = go (eqb (face_at B c) 15) refl
    where
      go : (b : Bool) → eqb (face_at B c) 15 ≡ b → (b || hit) ≡ hit
      go true e = sym (h (eqb-true _ _ e))
      go false e = refl

  shown_again : get_or shown c 0 ≡ face_at B c → set shown c (face_at B c) ≡ shown
  shown_again o = rw (← o) (set-get_or shown c 0)

  stack_again : get_or shown c 0 ≡ face_at B c → (face_at B c ≡ 0 → (k : ℕ) → k < 8 → closed_at shown (neighbour R C c k) ≡ true → ⊥) → rust_stack B R C shown c st ≡ st
  stack_again o f = go (eqb (face_at B c) 0) refl
    where
      go : (b : Bool) → eqb (face_at B c) 0 ≡ b → pick b (pushed R C (closed_at (set shown c (face_at B c))) c 8 st) st ≡ st
      go true e = rw (shown_again o) (push_none R C shown c 8 st (f (eqb-true _ _ e)))
      go false e = refl

module _ (B : List ℤ) (R C : ℕ) (ten : (i : ℕ) → face_at B i ≡ 10 → ⊥) where
  -- after the opening of a closed cell
  stacked_next : (shown : List ℕ) (hit : Bool) (c : ℕ) (st : List ℕ) → closed_at shown c ≡ true → Stacked B R C shown hit (c ∷ []) st
      → Stacked B R C (set shown c (face_at B c)) (eqb (face_at B c) 15 || hit) [] (rust_stack B R C shown c st)
  stacked_next shown hit c st e s = go (eqb (face_at B c) 0) refl
    where
      sh : List ℕ
      sh = set shown c (face_at B c)

      h : Bool
      h = eqb (face_at B c) 15 || hit

      gone : (ab : List ℕ) (q : ℕ) → closed_at (set shown c (face_at B c)) q ≡ true → In q (c ∷ []) → In q ab
      gone ab q d i = ⊎_elim (λ p. absurd ((closed_back shown c (face_at B c) q (ten c) (closed_in shown c e) d).0 p)) (λ p. absurd p) i

      go : (b : Bool) → eqb (face_at B c) 0 ≡ b
          → Stacked B R C (set shown c (face_at B c)) (eqb (face_at B c) 15 || hit) [] (pick b (pushed R C (closed_at (set shown c (face_at B c))) c 8 st) st)
      go true z =
          stacked_pushed B R C c (set shown c (face_at B c)) (eqb (face_at B c) 15 || hit) st 8 []
          (λ ab' f g. stacked_opened B R C shown hit c e (ten c) (c ∷ []) ab' st (gone ab') (λ w. f) s)
      go false z = stacked_opened B R C shown hit c e (ten c) (c ∷ []) [] st (gone []) (λ w. absurd (eqb-false _ _ z w)) s

  -- THE SAME OUTCOME
  pub rust_same : (f : ℕ) (st shown : List ℕ) (hit : Bool) → Stacked B R C shown hit [] st
      → rust_run B R C f st shown hit ≡ run B R C f st shown hit
  unfolding rust_run run
  rust_same zero st shown hit s = refl
  rust_same (suc f) [] shown hit s = refl
  rust_same (suc f) (c ∷ st) shown hit s = go (closed_at shown c) refl (λ st shown hit s. rust_same f st shown hit s)
    where
      go : (b : Bool) → closed_at shown c ≡ b → ((st shown : List ℕ) (hit : Bool) → Stacked B R C shown hit [] st → rust_run B R C f st shown hit ≡ run B R C f st shown hit)
          → rust_run B R C f (rust_stack B R C shown c st) (set shown c (face_at B c)) (eqb (face_at B c) 15 || hit)
          ≡ run B R C f (stack_after B R C shown c st) (shown_after B shown c) (hit_after B shown c hit)
      go true e rec =
          rec (rust_stack B R C shown c st) (set shown c (face_at B c)) (eqb (face_at B c) 15 || hit) (stacked_next shown hit c st e s.1)
          ∙ cc (stack_both B R C c shown st hit e, shown_open B R C shown c e, hit_both B R C c shown st hit e)
      go false e rec = again s.0
        where
          below : Stacked B R C shown hit [] st
          below = weaken B R C shown hit (c ∷ []) [] st (λ q d i. ⊎_elim (λ p. absurd (false≢true (sym e ∙ (rw p at d)))) (λ p. absurd p) i) s.1

          again : Fine B R C shown hit [] c
              → rust_run B R C f (rust_stack B R C shown c st) (set shown c (face_at B c)) (eqb (face_at B c) 15 || hit)
              ≡ run B R C f (stack_after B R C shown c st) (shown_after B shown c) (hit_after B shown c hit)
          again (shut d) = absurd (false≢true (sym e ∙ d))
          again (open' o h n) =
              ap₃ (λ (a b : List ℕ) (x : Bool). rust_run B R C f a b x) (stack_again B R C c shown st hit o n) (shown_again B R C c shown st hit o) (hit_again B R C c shown st hit h)
              ∙ rec st shown hit below
              ∙ cc (stack_shut B R C shown c st e, shown_shut B R C shown c e, hit_shut B R C shown c hit e)

  -- where each given cell is closed, the stack is fine
  pub all_closed : (shown : List ℕ) (hit : Bool) (ab st : List ℕ) → ((x : ℕ) → In x st → closed_at shown x ≡ true) → Stacked B R C shown hit ab st
  all_closed shown hit ab [] f = tt
  all_closed shown hit ab (x ∷ st) f = (shut (f x (inl refl)), all_closed shown hit (x ∷ ab) st (λ y i. f y (inr i)))

-- where the given cells are closed, as a left click's and a chord's are
pub opening_as_rust : (B : List ℤ) (R C : ℕ) → Valued B → (given shown : List ℕ) → ((x : ℕ) → In x given → closed_at shown x ≡ true)
    → rust_run B R C (turns (R * C)) given shown false ≡ run B R C (turns (R * C)) given shown false
opening_as_rust B R C v given shown h =
    rust_same B R C (λ i. face_ne B v i 10 (omega arith) (omega arith)) (turns (R * C)) given shown false
    (all_closed B R C (λ i. face_ne B v i 10 (omega arith) (omega arith)) shown false [] given h)
