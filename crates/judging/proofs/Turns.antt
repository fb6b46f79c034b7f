-- A turn of a walk, kind by kind: what a kind says of its cell, what the walk goes on with, and what the turn costs.
use mathlib.Core.Path.{◌≡◌, refl, ap, sym, ◌∙◌}
use mathlib.Core.Bool.{Bool, true, false, ◌&&◌, false≢true}
use mathlib.Core.List.{List, [], ◌∷◌}
use Prim.Native.Nat.{ℕ, zero, suc, ◌+◌, ◌*◌, ◌<◌, ◌≤◌}
use native.Mathlib.Omega.{arith}
use borrow.Author.Tests.{eq-eqb, ne_eqb, lt-ltb, ltb-true, eqb-true, eqb-false}
use lib.Dec.{ltb, eqb}
use lib.ListN.{length, get_or, set, length-set, length-replicate, get_or-replicate}
use lib.Seq.{get_or-set_same, get_or-set_other}
use lib.IntN.{ℤ}
use Rattle.rules.specs.Words.{pick, bit}
use Rattle.rules.specs.Grid.{pushed}
use Rattle.rules.specs.Board.{face_at}
use Rattle.cells.proofs.Words.{bit_le}
use Rattle.rules.specs.Judging.{free_at, Kind, pass, stop, mark, kind, stack_by, marks_by, whole_by, walk, unmarked}
use Rattle.cells.proofs.Grid.{pushed_height}

-- the stack, the marks and the judgement once a cell was taken off the stack
abbrev pub stack_next : List ℤ → ℕ → ℕ → List ℕ → ℕ → List ℕ → List ℕ → List ℕ
stack_next B R C shown i marks st = stack_by (kind B shown marks i) (pushed R C (free_at (set marks i 1)) i 8 st) st

abbrev pub marks_next : List ℤ → List ℕ → ℕ → List ℕ → List ℕ
marks_next B shown i marks = marks_by (kind B shown marks i) (set marks i 1) marks

abbrev pub whole_next : List ℤ → List ℕ → ℕ → List ℕ → Bool → Bool
whole_next B shown i marks whole = whole_by (kind B shown marks i) whole

-- ---- a cell without a mark -----------------------------------------------------------------------------------------------------------

pub free_fact : (marks : List ℕ) (q : ℕ) → free_at marks q ≡ true → (q < length marks) × (get_or marks q 0 ≡ 0)
unfolding free_at
free_fact marks q e = go (ltb q (length marks)) (eqb (get_or marks q 0) 0) refl refl e
  where
    go : (a b : Bool) → ltb q (length marks) ≡ a → eqb (get_or marks q 0) 0 ≡ b → (a && b) ≡ true → (q < length marks) × (get_or marks q 0 ≡ 0)
    go true true p r t = (ltb-true _ _ p, eqb-true _ _ r)
    go true false p r t = absurd (false≢true t)
    go false b p r t = absurd (false≢true t)

pub free_other : (marks : List ℕ) (i x : ℕ) → (x ≡ i → ⊥) → free_at (set marks i 1) x ≡ free_at marks x
unfolding free_at
free_other marks i x n = rw (length-set, get_or-set_other marks i x 1 0 n)

pub free_self : (marks : List ℕ) (i : ℕ) → i < length marks → free_at (set marks i 1) i ≡ false
unfolding free_at
free_self marks i h = rw (length-set, get_or-set_same marks i 1 0 h, lt-ltb i (length marks) h)

pub free_back : (marks : List ℕ) (i q : ℕ) → i < length marks → free_at (set marks i 1) q ≡ true → (q ≡ i → ⊥) × (free_at marks q ≡ true)
free_back marks i q h e =
    let d : q ≡ i → ⊥ = λ p. false≢true (sym (free_self marks i h) ∙ ap (free_at (set marks i 1)) (sym p) ∙ e) in
    (d, sym (free_other marks i q d) ∙ e)

pub free_kept : (marks : List ℕ) (i x : ℕ) → i < length marks → free_at marks x ≡ false → free_at (set marks i 1) x ≡ false
free_kept marks i x h e = go (eqb x i) refl
  where
    go : (b : Bool) → eqb x i ≡ b → free_at (set marks i 1) x ≡ false
    go true d = rw (eqb-true x i d) (free_self marks i h)
    go false d = free_other marks i x (eqb-false x i d) ∙ e

pub free_fresh : (n x : ℕ) → x < n → free_at (unmarked n) x ≡ true
unfolding free_at
free_fresh n x h = rw (length-replicate, lt-ltb x n h, get_or-replicate {A = ℕ} n x 0 0 h)

-- ---- the kinds -----------------------------------------------------------------------------------------------------------------------

module _ (B : List ℤ) (shown marks : List ℕ) (i : ℕ) where
  pub kind_marked : free_at marks i ≡ false → kind B shown marks i ≡ pass
  unfolding kind
  kind_marked e = rw e

  pub kind_number : (face_at B i ≡ 0 → ⊥) → kind B shown marks i ≡ pass
  unfolding kind
  kind_number n = go (free_at marks i)
    where
      go : (b : Bool) → pick (b && eqb (face_at B i) 0) (pick (eqb (get_or shown i 0) 11) stop mark) pass ≡ pass
      go true = rw (ne_eqb _ _ n)
      go false = refl

  pub kind_flag : free_at marks i ≡ true → face_at B i ≡ 0 → eqb (get_or shown i 0) 11 ≡ true → kind B shown marks i ≡ stop
  unfolding kind
  kind_flag e z f = simp (e, eq-eqb _ _ z, f)

  pub kind_zero : free_at marks i ≡ true → face_at B i ≡ 0 → eqb (get_or shown i 0) 11 ≡ false → kind B shown marks i ≡ mark
  unfolding kind
  kind_zero e z f = simp (e, eq-eqb _ _ z, f)

  -- what a stop and a mark say
  pub record Zero (flag : Bool) : Type 0 where
    pub free : free_at marks i ≡ true
    pub nought : face_at B i ≡ 0
    pub shows : eqb (get_or shown i 0) 11 ≡ flag

  pub stop_means : kind B shown marks i ≡ stop → Zero true
  stop_means k = go (free_at marks i) (eqb (face_at B i) 0) (eqb (get_or shown i 0) 11) refl refl refl
    where
      go : (a b d : Bool) → free_at marks i ≡ a → eqb (face_at B i) 0 ≡ b → eqb (get_or shown i 0) 11 ≡ d → Zero true
      go true true true e f g = record { free = e; nought = eqb-true _ _ f; shows = g }
      go true true false e f g = let z : stop ≡ mark = sym k ∙ kind_zero e (eqb-true _ _ f) g in absurd (let y : ◌≡◌ {A = ℕ} 0 1 = cc in omega arith)
      go true false d e f g = let z : stop ≡ pass = sym k ∙ kind_number (eqb-false _ _ f) in absurd (let y : ◌≡◌ {A = ℕ} 0 1 = cc in omega arith)
      go false b d e f g = let z : stop ≡ pass = sym k ∙ kind_marked e in absurd (let y : ◌≡◌ {A = ℕ} 0 1 = cc in omega arith)

  pub mark_means : kind B shown marks i ≡ mark → Zero false
  mark_means k = go (free_at marks i) (eqb (face_at B i) 0) (eqb (get_or shown i 0) 11) refl refl refl
    where
      go : (a b d : Bool) → free_at marks i ≡ a → eqb (face_at B i) 0 ≡ b → eqb (get_or shown i 0) 11 ≡ d → Zero false
      go true true false e f g = record { free = e; nought = eqb-true _ _ f; shows = g }
      go true true true e f g = let z : mark ≡ stop = sym k ∙ kind_flag e (eqb-true _ _ f) g in absurd (let y : ◌≡◌ {A = ℕ} 0 1 = cc in omega arith)
      go true false d e f g = let z : mark ≡ pass = sym k ∙ kind_number (eqb-false _ _ f) in absurd (let y : ◌≡◌ {A = ℕ} 0 1 = cc in omega arith)
      go false b d e f g = let z : mark ≡ pass = sym k ∙ kind_marked e in absurd (let y : ◌≡◌ {A = ℕ} 0 1 = cc in omega arith)

  -- a passed cell has a mark, lies off the board, or is no 0
  pub pass_means : kind B shown marks i ≡ pass → free_at marks i ≡ true → face_at B i ≡ 0 → ⊥
  pass_means k e z = go (eqb (get_or shown i 0) 11) refl
    where
      go : (d : Bool) → eqb (get_or shown i 0) 11 ≡ d → ⊥
      go true g = let y : pass ≡ stop = sym k ∙ kind_flag e z g in let x : ◌≡◌ {A = ℕ} 0 1 = cc in omega arith
      go false g = let y : pass ≡ mark = sym k ∙ kind_zero e z g in let x : ◌≡◌ {A = ℕ} 0 1 = cc in omega arith

-- ---- what the walk goes on with ------------------------------------------------------------------------------------------------------

pub walk_zero : (B : List ℤ) (R C : ℕ) (shown st marks : List ℕ) (whole : Bool) → walk B R C shown 0 st marks whole ≡ record { marks = marks; whole = whole }
unfolding walk
walk_zero B R C shown st marks whole = refl

pub walk_nil : (B : List ℤ) (R C : ℕ) (shown : List ℕ) (f : ℕ) (marks : List ℕ) (whole : Bool) → walk B R C shown f [] marks whole ≡ record { marks = marks; whole = whole }
unfolding walk
walk_nil B R C shown zero marks whole = refl
walk_nil B R C shown (suc f) marks whole = refl

pub walk_cons : (B : List ℤ) (R C : ℕ) (shown : List ℕ) (f i : ℕ) (st marks : List ℕ) (whole : Bool)
    → walk B R C shown (suc f) (i ∷ st) marks whole ≡ walk B R C shown f (stack_next B R C shown i marks st) (marks_next B shown i marks) (whole_next B shown i marks whole)
unfolding walk
walk_cons B R C shown f i st marks whole = refl

module _ (B : List ℤ) (R C : ℕ) (shown : List ℕ) (f i : ℕ) (st marks : List ℕ) (whole : Bool) where
  pub walk_pass : kind B shown marks i ≡ pass → walk B R C shown (suc f) (i ∷ st) marks whole ≡ walk B R C shown f st marks whole
  walk_pass k = walk_cons B R C shown f i st marks whole ∙ rw k refl

  pub walk_stop : kind B shown marks i ≡ stop → walk B R C shown (suc f) (i ∷ st) marks whole ≡ record { marks = marks; whole = false }
  walk_stop k = walk_cons B R C shown f i st marks whole ∙ rw k (walk_nil B R C shown f marks false)

  pub walk_mark : kind B shown marks i ≡ mark → walk B R C shown (suc f) (i ∷ st) marks whole ≡ walk B R C shown f (pushed R C (free_at (set marks i 1)) i 8 st) (set marks i 1) whole
  walk_mark k = walk_cons B R C shown f i st marks whole ∙ rw k refl

-- ---- what a turn costs ---------------------------------------------------------------------------------------------------------------

-- the number of cells without a mark
unfoldable pub free_count : List ℕ → ℕ
free_count [] = 0
free_count (x ∷ xs) = bit (eqb x 0) + free_count xs

pub free_le : (l : List ℕ) → free_count l ≤ length l
unfolding free_count
free_le [] = omega arith
free_le (x ∷ xs) = omega (arith, bit_le (eqb x 0), free_le xs)

pub free_set : (l : List ℕ) (i : ℕ) → i < length l → get_or l i 0 ≡ 0 → suc (free_count (set l i 1)) ≡ free_count l
unfolding free_count
free_set [] i h e = absurd (omega arith)
free_set (x ∷ xs) zero h e = simp (eq-eqb x 0 e) (omega arith)
free_set (x ∷ xs) (suc i) h e = omega (arith, free_set xs i (omega arith) e)

pub free_pos : (marks : List ℕ) (q : ℕ) → free_at marks q ≡ true → 1 ≤ free_count marks
free_pos marks q e = let f = free_set marks q (free_fact marks q e).0 (free_fact marks q e).1 in omega arith

-- the turns that are left, and the room that is left
pub record Cheaper (B : List ℤ) (R C : ℕ) (shown : List ℕ) (i : ℕ) (marks st : List ℕ) : Type 0 where
  pub turns : length (stack_next B R C shown i marks st) + 8 * free_count (marks_next B shown i marks) ≤ length st + 8 * free_count marks
  pub room : length (stack_next B R C shown i marks st) + 7 * free_count (marks_next B shown i marks) ≤ suc (length st) + 7 * free_count marks

module _ (B : List ℤ) (R C : ℕ) (shown : List ℕ) (i : ℕ) (marks st : List ℕ) where
  mark_cost : kind B shown marks i ≡ mark → (length (pushed R C (free_at (set marks i 1)) i 8 st) ≤ 8 + length st) × (suc (free_count (set marks i 1)) ≡ free_count marks)
  mark_cost k =
      let f = free_fact marks i (mark_means B shown marks i k).free in
      (pushed_height R C _ i 8 st, free_set marks i f.0 f.1)

  pub cheaper : Cheaper B R C shown i marks st
  cheaper = go (kind B shown marks i) refl
    where
      go : (k : Kind) → kind B shown marks i ≡ k → Cheaper B R C shown i marks st
      go pass k = record { turns = rw k (omega arith); room = rw k (omega arith) }
      go stop k = record { turns = rw k (omega arith); room = rw k (omega arith) }
      go mark k = let c = mark_cost k in record { turns = rw k (omega arith); room = rw k (omega arith) }

  pub cost_mark : (f : ℕ) → kind B shown marks i ≡ mark → length (i ∷ st) + 8 * free_count marks ≤ suc f → length (pushed R C (free_at (set marks i 1)) i 8 st) + 8 * free_count (set marks i 1) ≤ f
  cost_mark f k h = let c = mark_cost k in omega arith
