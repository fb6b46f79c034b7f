-- The Rust's own walk, which expands a 0 again that has a mark, ends with the same marks and the same judgement, on whatever marks it starts.
use mathlib.Core.Path.{◌≡◌, refl, ap, sym, ◌∙◌}
use mathlib.Core.Bool.{Bool, true, false, false≢true, true≢false}
use mathlib.Core.List.{List, [], ◌∷◌}
use mathlib.Core.Logic.{inl, inr, ⊎_elim}
use Prim.Native.Nat.{ℕ, zero, suc, ◌+◌, ◌*◌, ◌<◌, ◌≤◌}
use native.Mathlib.Omega.{arith}
use borrow.Author.Tests.{eqb-true, eqb-false}
use lib.Dec.{eqb}
use lib.ListN.{length, get_or, set, length-replicate}
use lib.Seq.{get_or-set_same, get_or-set_other, set-get_or}
use lib.IntN.{ℤ}
use Rattle.rules.specs.Grid.{neighbour, push_if, pushed}
use Rattle.rules.specs.Board.{face_at}
use Rattle.rules.specs.Opening.{turns}
use Rattle.rules.specs.Judging.{free_at, Kind, pass, stop, mark, kind, walk, walk_from, judged_left, Walked, unmarked, tally}
use Rattle.judging.specs.Joining.{In, Rust, empty, number, flag, nought}
use Rattle.judging.proofs.Turns.{free_fact, free_other, free_back, free_fresh, stop_means, mark_means, pass_means, walk_zero, walk_nil, walk_pass, walk_stop, walk_mark, free_count, free_le, cost_mark}
use Rattle.judging.proofs.Judging.{tally_long}

-- a cell of the stack has no mark; or it has one, shows no 11, and its 0 neighbours without a mark are among the cells above it
pub data Fine (B : List ℤ) (R C : ℕ) (shown marks ab : List ℕ) (i : ℕ) : Type 0 where
  open' : free_at marks i ≡ true → Fine B R C shown marks ab i
  done' : get_or marks i 0 ≡ 1 → eqb (get_or shown i 0) 11 ≡ false
      → ((k : ℕ) → k < 8 → free_at marks (neighbour R C i k) ≡ true → face_at B (neighbour R C i k) ≡ 0 → In (neighbour R C i k) ab)
      → Fine B R C shown marks ab i

abbrev pub Stacked : List ℤ → ℕ → ℕ → List ℕ → List ℕ → List ℕ → List ℕ → Type 0
Stacked B R C shown marks ab [] = Unit {0}
Stacked B R C shown marks ab (i ∷ st) = Fine B R C shown marks ab i × Stacked B R C shown marks (i ∷ ab) st

-- what is above a cell matters only where it is a 0 without a mark
weaken : (B : List ℤ) (R C : ℕ) (shown marks ab ab' st : List ℕ) → ((q : ℕ) → free_at marks q ≡ true → face_at B q ≡ 0 → In q ab → In q ab')
    → Stacked B R C shown marks ab st → Stacked B R C shown marks ab' st
weaken B R C shown marks ab ab' [] f s = tt
weaken B R C shown marks ab ab' (i ∷ st) f s =
    (fine s.0, weaken B R C shown marks (i ∷ ab) (i ∷ ab') st (λ q e z. ⊎_elim (λ s'. inl s') (λ s'. inr (f q e z s'))) s.1)
  where
    fine : Fine B R C shown marks ab i → Fine B R C shown marks ab' i
    fine (open' e) = open' e
    fine (done' o g n) = done' o g (λ k lt e z. f _ e z (n k lt e z))

module _ (B : List ℤ) (R C : ℕ) (shown marks : List ℕ) (i : ℕ) (on : i < length marks) (clean : eqb (get_or shown i 0) 11 ≡ false) where
  -- the stack below a cell that is marked
  marked : (ab ab' st : List ℕ) → ((q : ℕ) → free_at (set marks i 1) q ≡ true → In q ab → In q ab')
      → ((k : ℕ) → k < 8 → free_at (set marks i 1) (neighbour R C i k) ≡ true → In (neighbour R C i k) ab')
      → Stacked B R C shown marks ab st → Stacked B R C shown (set marks i 1) ab' st
  marked ab ab' [] f g s = tt
  marked ab ab' (x ∷ st) f g s =
      (fine (eqb x i) refl s.0, marked (x ∷ ab) (x ∷ ab') st (λ q d. ⊎_elim (λ s'. inl s') (λ s'. inr (f q d s'))) (λ k lt d. inr (g k lt d)) s.1)
    where
      self : Fine B R C shown (set marks i 1) ab' i
      self = done' (get_or-set_same marks i 1 0 on) clean (λ k lt d z. g k lt d)

      fine : (b : Bool) → eqb x i ≡ b → Fine B R C shown marks ab x → Fine B R C shown (set marks i 1) ab' x
      fine true d a = rw (eqb-true x i d) self
      fine false d (open' e) = open' (free_other marks i x (eqb-false x i d) ∙ e)
      fine false d (done' o y n) =
          done' (get_or-set_other marks i x 1 0 (eqb-false x i d) ∙ o) y (λ k lt e z. f (neighbour R C x k) e (n k lt (free_back marks i (neighbour R C x k) on e).1 z))

-- the cells that are stacked have no mark, and stand above the rest
module _ (B : List ℤ) (R C i : ℕ) (shown marks st : List ℕ) where
  abbrev Under : ℕ → List ℕ → Type 0
  Under k ab =
      (ab' : List ℕ) → ((j : ℕ) → j < k → free_at marks (neighbour R C i j) ≡ true → In (neighbour R C i j) ab') → ((q : ℕ) → In q ab → In q ab') → Stacked B R C shown marks ab' st

  upto : (k : ℕ) (ab : List ℕ) → ((j : ℕ) → j < k → free_at marks (neighbour R C i j) ≡ true → In (neighbour R C i j) ab)
      → (free_at marks (neighbour R C i k) ≡ true → In (neighbour R C i k) ab)
      → (j : ℕ) → j < suc k → free_at marks (neighbour R C i j) ≡ true → In (neighbour R C i j) ab
  upto k ab f g j lt = go (eqb j k) refl
    where
      go : (b : Bool) → eqb j k ≡ b → free_at marks (neighbour R C i j) ≡ true → In (neighbour R C i j) ab
      go true e d = rw (eqb-true j k e) (g (rw (eqb-true j k e) at d))
      go false e d = f j (let n = eqb-false j k e in omega arith) d

  push_one : (k : ℕ) (ab : List ℕ) (b : Bool) → free_at marks (neighbour R C i k) ≡ b → Under (suc k) ab
      → ((ab' : List ℕ) → Under k ab' → Stacked B R C shown marks ab' (pushed R C (free_at marks) i k st))
      → Stacked B R C shown marks ab (push_if b (neighbour R C i k) (pushed R C (free_at marks) i k st))
  push_one k ab true e K rec = (open' e, rec (neighbour R C i k ∷ ab) (λ ab' f g. K ab' (upto k ab' f (λ d. g (neighbour R C i k) (inl refl))) (λ q s'. g q (inr s'))))
  push_one k ab false e K rec = rec ab (λ ab' f g. K ab' (upto k ab' f (λ d. absurd (false≢true (sym e ∙ d)))) g)

  stacked : (k : ℕ) (ab : List ℕ) → Under k ab → Stacked B R C shown marks ab (pushed R C (free_at marks) i k st)
  unfolding pushed
  stacked zero ab K = K ab (λ j lt. absurd (omega arith)) (λ q s'. s')
  stacked (suc k) ab K = push_one k ab (free_at marks (neighbour R C i k)) refl K (λ ab' K'. stacked k ab' K')

-- cells that are no 0 come off the stack again
rust_numbers : (B : List ℤ) (R C : ℕ) (shown : List ℕ) (p : ℕ → Bool) (i k : ℕ) (st marks : List ℕ) (o : Walked)
    → ((j : ℕ) → j < k → p (neighbour R C i j) ≡ true → face_at B (neighbour R C i j) ≡ 0 → ⊥)
    → Rust B R C shown st marks o → Rust B R C shown (pushed R C p i k st) marks o
unfolding pushed
rust_numbers B R C shown p i zero st marks o n r = r
rust_numbers B R C shown p i (suc k) st marks o n r =
    go (p (neighbour R C i k)) refl (rust_numbers B R C shown p i k st marks o (λ j lt. n j (omega arith)) r)
  where
    go : (b : Bool) → p (neighbour R C i k) ≡ b → Rust B R C shown (pushed R C p i k st) marks o
        → Rust B R C shown (push_if b (neighbour R C i k) (pushed R C p i k st)) marks o
    go true e s = number (neighbour R C i k) _ marks o (n k (omega arith) e) s
    go false e s = s

module _ (B : List ℤ) (R C : ℕ) (shown : List ℕ) where
  stacked_next : (i : ℕ) (st marks : List ℕ) → kind B shown marks i ≡ mark → Stacked B R C shown marks (i ∷ []) st
      → Stacked B R C shown (set marks i 1) [] (pushed R C (free_at (set marks i 1)) i 8 st)
  stacked_next i st marks k s =
      let m = mark_means B shown marks i k in
      let on = (free_fact marks i m.free).0 in
      stacked B R C i shown (set marks i 1) st 8 []
      (λ ab' f g. marked B R C shown marks i on m.shows (i ∷ []) ab' st (λ q e s'. ⊎_elim (λ p. absurd ((free_back marks i q on e).0 p)) (λ b. absurd b) s') f s)

  -- a cell that the walk skips: the Rust's loop comes to the same stack
  rust_skip : (i : ℕ) (st marks : List ℕ) (o : Walked) → kind B shown marks i ≡ pass → Fine B R C shown marks [] i → Rust B R C shown st marks o → Rust B R C shown (i ∷ st) marks o
  rust_skip i st marks o k (open' e) r = number i st marks o (pass_means B shown marks i k e) r
  rust_skip i st marks o k (done' m g n) r = go (eqb (face_at B i) 0) refl
    where
      same : set marks i 1 ≡ marks
      same = rw (← m) (set-get_or marks i 0)

      go : (b : Bool) → eqb (face_at B i) 0 ≡ b → Rust B R C shown (i ∷ st) marks o
      go true z = nought i st marks o (eqb-true _ _ z) g (rw same (rust_numbers B R C shown (free_at marks) i 8 st marks o (λ j lt e y. n j lt e y) r))
      go false z = number i st marks o (eqb-false _ _ z) r

  -- THE SAME OUTCOME
  pub rust_walk : (f : ℕ) (st marks : List ℕ) → length st + 8 * free_count marks ≤ f → Stacked B R C shown marks [] st
      → Rust B R C shown st marks (walk B R C shown f st marks true)
  rust_walk zero [] marks h s = rw (walk_zero B R C shown [] marks true) (empty marks)
  rust_walk zero (i ∷ st) marks h s = absurd (omega arith)
  rust_walk (suc f) [] marks h s = rw (walk_nil B R C shown (suc f) marks true) (empty marks)
  rust_walk (suc f) (i ∷ st) marks h s = go (kind B shown marks i) refl (λ st marks h s. rust_walk f st marks h s)
    where
      go : (k : Kind) → kind B shown marks i ≡ k
          → ((st marks : List ℕ) → length st + 8 * free_count marks ≤ f → Stacked B R C shown marks [] st → Rust B R C shown st marks (walk B R C shown f st marks true))
          → Rust B R C shown (i ∷ st) marks (walk B R C shown (suc f) (i ∷ st) marks true)
      go pass k rec =
          rw (walk_pass B R C shown f i st marks true k)
          (rust_skip i st marks _ k s.0 (rec st marks (omega arith) (weaken B R C shown marks (i ∷ []) [] st (λ q e z. ⊎_elim (λ p. absurd (pass_means B shown marks i k (rw p at e) (rw p at z))) (λ b. absurd b)) s.1)))
      go stop k rec =
          let m = stop_means B shown marks i k in
          rw (walk_stop B R C shown f i st marks true k) (flag i st marks m.nought m.shows)
      go mark k rec =
          let m = mark_means B shown marks i k in
          rw (walk_mark B R C shown f i st marks true k)
          (nought i st marks _ m.nought m.shows (rec _ _ (cost_mark B R C shown i marks st f k h) (stacked_next i st marks k s.1)))

  -- a walk from a cell without a mark, whatever the marks are
  pub rust_from : (i : ℕ) (marks : List ℕ) → length marks ≡ R * C → free_at marks i ≡ true → Rust B R C shown (i ∷ []) marks (walk_from B R C shown i marks)
  unfolding walk_from
  rust_from i marks l e = let b = free_le marks in rust_walk (turns (R * C)) (i ∷ []) marks (omega arith) (open' e, tt)

  -- the Rust's loop has one outcome
  pub rust_one : (st marks : List ℕ) (o o' : Walked) → Rust B R C shown st marks o → Rust B R C shown st marks o' → o ≡ o'
  rust_one st marks o o' (empty m) (empty _) = refl
  rust_one st marks o o' (number i s m p n r) (number _ _ _ p' n' r') = rust_one s m o o' r r'
  rust_one st marks o o' (number i s m p n r) (flag _ _ _ z g) = absurd (n z)
  rust_one st marks o o' (number i s m p n r) (nought _ _ _ p' z g r') = absurd (n z)
  rust_one st marks o o' (flag i s m z g) (number _ _ _ p n r) = absurd (n z)
  rust_one st marks o o' (flag i s m z g) (flag _ _ _ z' g') = refl
  rust_one st marks o o' (flag i s m z g) (nought _ _ _ p z' g' r) = absurd (true≢false (sym g ∙ g'))
  rust_one st marks o o' (nought i s m p z g r) (number _ _ _ p' n r') = absurd (n z)
  rust_one st marks o o' (nought i s m p z g r) (flag _ _ _ z' g') = absurd (true≢false (sym g' ∙ g))
  rust_one st marks o o' (nought i s m p z g r) (nought _ _ _ p' z' g' r') = rust_one _ _ o o' r r'

-- ---- the same outcome ----------------------------------------------------------------------------------------------------------------

module _ (B : List ℤ) (R C : ℕ) (shown : List ℕ) (i : ℕ) where
  -- whatever the Rust's walk ends with from a cell without a mark, the walk of the definition ends with
  pub rust_same : (marks : List ℕ) (o : Walked) → length marks ≡ R * C → free_at marks i ≡ true → Rust B R C shown (i ∷ []) marks o → o ≡ walk_from B R C shown i marks
  rust_same marks o l e r = rust_one B R C shown (i ∷ []) marks o (walk_from B R C shown i marks) r (rust_from B R C shown i marks l e)

  -- a left click: on fresh marks
  pub rust_left : (o : Walked) → i < R * C → Rust B R C shown (i ∷ []) (unmarked (R * C)) o → o.whole ≡ judged_left B R C shown i
  unfolding judged_left
  rust_left o on r = ap (λ (x : Walked). x.whole) (rust_same (unmarked (R * C)) o (length-replicate (R * C) 0) (free_fresh (R * C) i on) r)

  -- a chord: on the marks that the walks before it left
  pub rust_chord : (st : List ℕ) (o : Walked) → free_at (tally B R C shown st).marks i ≡ true → Rust B R C shown (i ∷ []) (tally B R C shown st).marks o
      → o ≡ walk_from B R C shown i (tally B R C shown st).marks
  rust_chord st o e r = rust_same (tally B R C shown st).marks o (tally_long B R C shown st) e r
