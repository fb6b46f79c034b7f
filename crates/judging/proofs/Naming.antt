-- However the openings are named, by one cell of each in whatever order, as many are counted as there are names.
use mathlib.Core.Path.{◌≡◌, refl, sym, subst, ◌∙◌}
use mathlib.Core.List.{List, [], ◌∷◌}
use mathlib.Core.Logic.{inl, inr, ⊎_elim}
use Prim.Native.Nat.{ℕ, ◌-◌, ◌*◌, ◌<◌, ◌≤◌}
use native.Mathlib.Omega.{arith}
use lib.ListN.{length}
use lib.IntN.{ℤ}
use Rattle.rules.specs.Grid.{neighbour}
use Rattle.rules.specs.Judging.{tally, openings_judged}
use Rattle.cells.proofs.Grid.{neighbour_back}
use Rattle.judging.specs.Joining.{In, Nought, Apart, From, Names, Joined, here, next}
use Rattle.judging.proofs.Lists.{Others, others}
use Rattle.judging.proofs.Once.{Rank, first, later, other, rank, opening_first, opening_later, opening_other}

module _ (B : List ℤ) (R C : ℕ) where
  -- ---- joined cells ------------------------------------------------------------------------------------------------------------------

  pub joined_nought : {a b : ℕ} → Nought B R C a → Joined B R C a b → Nought B R C b
  joined_nought n here = n
  joined_nought n (next i k j lt on z) = record { on = on; face = z }

  pub joined_trans : {a b c : ℕ} → Joined B R C a b → Joined B R C b c → Joined B R C a c
  joined_trans p here = p
  joined_trans p (next i k j lt on z) = next i k (joined_trans p j) lt on z

  -- place 7 - k leads back
  step_back : (i k : ℕ) → Nought B R C i → k < 8 → neighbour R C i k < R * C → Joined B R C (neighbour R C i k) i
  step_back i k n lt on =
      let e = neighbour_back R C i k n.on lt on in
      let j : Joined B R C (neighbour R C i k) (neighbour R C (neighbour R C i k) (7 - k)) =
      next (neighbour R C i k) (7 - k) here (omega arith) (rw e n.on) (rw e n.face) in
      rw e at j

  pub joined_sym : {a b : ℕ} → Nought B R C a → Joined B R C a b → Joined B R C b a
  joined_sym n here = here
  joined_sym n (next i k j lt on z) = joined_trans (step_back i k (joined_nought n j) lt on) (joined_sym n j)

  -- a 0 joined to a 0 of P is reached from P
  pub from_on : {P : ℕ → Type 0} {x y : ℕ} → From B R C P x → Joined B R C x y → From B R C P y
  from_on r j = record { cell = r.cell; holds = r.holds; nought = r.nought; joined = joined_trans r.joined j }

  pub from_nought : {P : ℕ → Type 0} {x : ℕ} → From B R C P x → Nought B R C x
  from_nought r = joined_nought r.nought r.joined

  -- what P holds of, Q holds of
  pub from_more : {P Q : ℕ → Type 0} {x : ℕ} → ((i : ℕ) → Nought B R C i → P i → Q i) → From B R C P x → From B R C Q x
  from_more f r = record { cell = r.cell; holds = f r.cell r.nought r.holds; nought = r.nought; joined = r.joined }

  none : openings_judged B R C [] [] ≡ 0
  unfolding openings_judged tally
  none = refl

  -- ---- at most one for each name -----------------------------------------------------------------------------------------------------

  few_first : (i : ℕ) (st names : List ℕ) → ((j : ℕ) → In j (i ∷ st) → Nought B R C j → From B R C (λ x. In x names) j) → Nought B R C i
      → (From B R C (λ j. In j st) i → ⊥) → ((rest : List ℕ) → ((j : ℕ) → In j st → Nought B R C j → From B R C (λ x. In x rest) j) → openings_judged B R C [] st ≤ length rest)
      → openings_judged B R C [] (i ∷ st) ≤ length names
  few_first i st names a n h rec =
      let mine = a i (inl refl) n in
      let o = others mine.cell names mine.holds in
      let e = opening_first B R C i st n h in
      let f = o.fewer in
      let r = rec o.rest (λ j m k. go mine o j m k (a j (inr m) k)) in
      omega arith
    where
      -- a name that i and j share would join them
      go : (mine : From B R C (λ x. In x names) i) (o : Others mine.cell names) (j : ℕ) → In j st → Nought B R C j → From B R C (λ x. In x names) j → From B R C (λ x. In x o.rest) j
      go mine o j m k r =
          ⊎_elim
          (λ p. absurd (h (record { cell = j; holds = m; nought = k; joined = joined_trans (joined_sym r.nought r.joined) (subst (λ (x : ℕ). Joined B R C x i) (sym p) mine.joined) })))
          (λ t. record { cell = r.cell; holds = t; nought = r.nought; joined = r.joined }) (o.there r.cell r.holds)

  pub openings_few : (cells names : List ℕ) → ((j : ℕ) → In j cells → Nought B R C j → From B R C (λ x. In x names) j) → openings_judged B R C [] cells ≤ length names
  openings_few [] names a = rw none (omega arith)
  openings_few (i ∷ st) names a = go (rank B R C i st) (λ rest f. openings_few st rest f)
    where
      go : Rank B R C i st → ((rest : List ℕ) → ((j : ℕ) → In j st → Nought B R C j → From B R C (λ x. In x rest) j) → openings_judged B R C [] st ≤ length rest)
          → openings_judged B R C [] (i ∷ st) ≤ length names
      go (first n h) rec = few_first i st names a n h rec
      go (later r) rec = let e = opening_later B R C i st r in let l = rec names (λ j m. a j (inr m)) in omega arith
      go (other h) rec = let e = opening_other B R C i st h in let l = rec names (λ j m. a j (inr m)) in omega arith

  -- ---- names there are ---------------------------------------------------------------------------------------------------------------

  -- the first cells of the openings
  pub record Named (cells : List ℕ) : Type 0 where
    pub names : List ℕ
    pub are : Names B R C (λ i. In i cells) names
    pub many : openings_judged B R C [] cells ≡ length names

  more_names : (i : ℕ) (st : List ℕ) → Rank B R C i st → Named st → Named (i ∷ st)
  more_names i st (first n h) k =
      record {
        names = i ∷ k.names;
        are =
            record {
              each = λ x m. ⊎_elim (λ p. record { cell = i; holds = inl refl; nought = n; joined = rw p here }) (λ t. from_more (λ j b s. inr s) (k.are.each x t)) m;
              all = λ j m b. ⊎_elim (λ p. record { cell = i; holds = inl refl; nought = n; joined = rw p here }) (λ t. from_more (λ x c s. inr s) (k.are.all j t b)) m;
              apart = (λ y m j. h (from_on (k.are.each y m) (joined_sym n j)), k.are.apart);
            };
        many = opening_first B R C i st n h ∙ (let e = k.many in omega arith);
      }
  more_names i st (later r) k =
      record {
        names = k.names;
        are =
            record {
              each = λ x m. from_more (λ j b s. inr s) (k.are.each x m);
              all = λ j m b. ⊎_elim (λ p. rw p (from_on (k.are.all r.cell r.holds r.nought) r.joined)) (λ t. k.are.all j t b) m;
              apart = k.are.apart;
            };
        many = opening_later B R C i st r ∙ k.many;
      }
  more_names i st (other h) k =
      record {
        names = k.names;
        are =
            record {
              each = λ x m. from_more (λ j b s. inr s) (k.are.each x m);
              all = λ j m b. ⊎_elim (λ p. absurd (h (rw p at b))) (λ t. k.are.all j t b) m;
              apart = k.are.apart;
            };
        many = opening_other B R C i st h ∙ k.many;
      }

  pub named : (cells : List ℕ) → Named cells
  named [] = record { names = []; are = record { each = λ x m. absurd m; all = λ i m. absurd m; apart = tt }; many = none }
  named (i ∷ st) = more_names i st (rank B R C i st) (named st)

  -- ---- and one for each of them ------------------------------------------------------------------------------------------------------

  -- from the names themselves each is counted
  apart_count : (names : List ℕ) → ((x : ℕ) → In x names → Nought B R C x) → Apart B R C names → openings_judged B R C [] names ≡ length names
  apart_count [] n a = none
  apart_count (x ∷ l) n a =
      let e = opening_first B R C x l (n x (inl refl)) (λ r. a.0 r.cell r.holds (joined_sym r.nought r.joined)) in
      let r = apart_count l (λ y m. n y (inr m)) a.1 in
      e ∙ (omega arith)

  pub openings_named : (cells names : List ℕ) → Names B R C (λ i. In i cells) names → openings_judged B R C [] cells ≡ length names
  openings_named cells names k =
      let own = named cells in
      let few = openings_few cells names k.all in
      let own-few =
      openings_few names own.names (λ x m b. let r = k.each x m in from_on (own.are.all r.cell r.holds r.nought) r.joined) in
      let count = apart_count names (λ x m. from_nought (k.each x m)) k.apart in
      let e = own.many in
      omega arith
