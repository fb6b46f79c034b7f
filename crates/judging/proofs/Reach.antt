-- A left click's judging is the rule of the paper: no 0 cell of the opening shows 11.
use mathlib.Core.Path.{◌≡◌, refl, ap, sym, ◌∙◌}
use mathlib.Core.Bool.{Bool, true, false, false≢true, true≢false}
use mathlib.Core.List.{List, [], ◌∷◌}
use mathlib.Core.Logic.{inl, inr, ⊎_elim}
use Prim.Native.Nat.{ℕ, zero, suc, ◌+◌, ◌*◌, ◌<◌, ◌≤◌}
use native.Mathlib.Omega.{arith}
use borrow.Author.Tests.{eqb-true, eqb-false, eq-eqb}
use lib.Dec.{eqb}
use lib.ListN.{length, get_or, set, length-set, length-replicate}
use lib.IntN.{ℤ}
use Rattle.rules.specs.Grid.{neighbour, pushed}
use Rattle.rules.specs.Board.{face_at}
use Rattle.rules.specs.Opening.{turns}
use Rattle.rules.specs.Judging.{free_at, Kind, pass, stop, mark, kind, walk, walk_from, judged_left, Walked, unmarked}
use Rattle.judging.specs.Joining.{In, Joined, here, next, Flagged}
use Rattle.judging.proofs.Lists.{pushed_all, pushed_keeps, pushed_has}
use Rattle.judging.proofs.Turns.{free_fact, free_other, free_back, free_fresh, stop_means, mark_means, pass_means, walk_zero, walk_nil, walk_pass, walk_stop, walk_mark, free_count, free_le, cost_mark}

-- SOUND: a walk that is stopped met a 0 of the opening that shows 11
module _ (B : List ℤ) (R C : ℕ) (shown : List ℕ) (P : ℕ → Type 0)
    (rule : (i k : ℕ) → P i → k < 8 → neighbour R C i k < R * C → face_at B (neighbour R C i k) ≡ 0 → P (neighbour R C i k)) where
  abbrev Met : Type 0
  Met = (i : ℕ) × (P i × (get_or shown i 0 ≡ 11))

  abbrev Fair : ℕ → Type 0
  Fair x = x < R * C → face_at B x ≡ 0 → P x

  pub walk_met : (f : ℕ) (st marks : List ℕ) → length marks ≡ R * C → ((x : ℕ) → In x st → Fair x) → (walk B R C shown f st marks true).whole ≡ false → Met
  walk_met zero st marks l a e = absurd (true≢false (sym (ap (λ (o : Walked). o.whole) (walk_zero B R C shown st marks true)) ∙ e))
  walk_met (suc f) [] marks l a e = absurd (true≢false (sym (ap (λ (o : Walked). o.whole) (walk_nil B R C shown (suc f) marks true)) ∙ e))
  walk_met (suc f) (i ∷ st) marks l a e = go (kind B shown marks i) refl (λ s m k b d. walk_met f s m k b d)
    where
      go : (k : Kind) → kind B shown marks i ≡ k
          → ((s m : List ℕ) → length m ≡ R * C → ((x : ℕ) → In x s → Fair x) → (walk B R C shown f s m true).whole ≡ false → Met) → Met
      go pass k rec = rec st marks l (λ x m'. a x (inr m')) (ap (λ (o : Walked). o.whole) (sym (walk_pass B R C shown f i st marks true k)) ∙ e)
      go stop k rec =
          let s = stop_means B shown marks i k in
          (i, (a i (inl refl) (rw l at (free_fact marks i s.free).0) s.nought, eqb-true _ _ s.shows))
      go mark k rec =
          let s = mark_means B shown marks i k in
          let h : P i = a i (inl refl) (rw l at (free_fact marks i s.free).0) s.nought in
          rec (pushed R C (free_at (set marks i 1)) i 8 st) (set marks i 1) (length-set marks i 1 ∙ l)
          (pushed_all R C (free_at (set marks i 1)) i Fair 8 st (λ j lt on z. rule i j h lt on z) (λ x m'. a x (inr m')))
          (ap (λ (o : Walked). o.whole) (sym (walk_mark B R C shown f i st marks true k)) ∙ e)

-- COMPLETE: a walk that is not stopped leaves no 0 of the opening without a mark, and none that it marked shows 11
pub record Done (B : List ℤ) (R C : ℕ) (shown : List ℕ) (start : ℕ) (marks st : List ℕ) : Type 0 where
  pub closed : (x : ℕ) → x < R * C → free_at marks x ≡ false → (k : ℕ) → k < 8 → free_at marks (neighbour R C x k) ≡ true → face_at B (neighbour R C x k) ≡ 0 → In (neighbour R C x k) st
  pub first : free_at marks start ≡ true → In start st
  pub clean : (x : ℕ) → x < R * C → free_at marks x ≡ false → eqb (get_or shown x 0) 11 ≡ false

module _ (B : List ℤ) (R C : ℕ) (shown : List ℕ) (start : ℕ) (zero₀ : face_at B start ≡ 0) where
  done_pass : (i : ℕ) (st marks : List ℕ) → kind B shown marks i ≡ pass → Done B R C shown start marks (i ∷ st) → Done B R C shown start marks st
  done_pass i st marks k d =
      record {
        closed = λ x lt m j h e z. below (neighbour R C x j) e z (d.closed x lt m j h e z);
        first = λ e. below start e zero₀ (d.first e);
        clean = d.clean;
      }
    where
      below : (q : ℕ) → free_at marks q ≡ true → face_at B q ≡ 0 → In q (i ∷ st) → In q st
      below q e z m' = ⊎_elim (λ p. absurd (pass_means B shown marks i k (rw p at e) (rw p at z))) (λ j. j) m'

  done_mark : (i : ℕ) (st marks : List ℕ) → length marks ≡ R * C → kind B shown marks i ≡ mark → Done B R C shown start marks (i ∷ st)
      → Done B R C shown start (set marks i 1) (pushed R C (free_at (set marks i 1)) i 8 st)
  done_mark i st marks l k d =
      record {
        closed = λ x lt m j h e z. at x (eqb x i) refl lt m j h e z;
        first = λ e. let b = free_back marks i start on e in deeper start b.0 (d.first b.1);
        clean = λ x lt m. tidy x (eqb x i) refl lt m;
      }
    where
      on : i < length marks
      on = (free_fact marks i (mark_means B shown marks i k).free).0

      deeper : (q : ℕ) → (q ≡ i → ⊥) → In q (i ∷ st) → In q (pushed R C (free_at (set marks i 1)) i 8 st)
      deeper q n m' = ⊎_elim (λ p. absurd (n p)) (λ j. pushed_keeps R C (free_at (set marks i 1)) i 8 st q j) m'

      at : (x : ℕ) (b : Bool) → eqb x i ≡ b → x < R * C → free_at (set marks i 1) x ≡ false → (j : ℕ) → j < 8 → free_at (set marks i 1) (neighbour R C x j) ≡ true
          → face_at B (neighbour R C x j) ≡ 0 → In (neighbour R C x j) (pushed R C (free_at (set marks i 1)) i 8 st)
      at x true p lt m j h e z =
          let e' : free_at (set marks i 1) (neighbour R C i j) ≡ true = ap (λ (y : ℕ). free_at (set marks i 1) (neighbour R C y j)) (sym (eqb-true x i p)) ∙ e in
          rw (eqb-true x i p) (pushed_has R C (free_at (set marks i 1)) i 8 st j h e')
      at x false p lt m j h e z =
          let b = free_back marks i (neighbour R C x j) on e in
          deeper (neighbour R C x j) b.0 (d.closed x lt (sym (free_other marks i x (eqb-false x i p)) ∙ m) j h b.1 z)

      tidy : (x : ℕ) (b : Bool) → eqb x i ≡ b → x < R * C → free_at (set marks i 1) x ≡ false → eqb (get_or shown x 0) 11 ≡ false
      tidy x true p lt m = rw (eqb-true x i p) (mark_means B shown marks i k).shows
      tidy x false p lt m = d.clean x lt (sym (free_other marks i x (eqb-false x i p)) ∙ m)

  pub walk_done : (f : ℕ) (st marks : List ℕ) → length marks ≡ R * C → length st + 8 * free_count marks ≤ f → Done B R C shown start marks st
      → (walk B R C shown f st marks true).whole ≡ true → Done B R C shown start (walk B R C shown f st marks true).marks []
  walk_done zero [] marks l h d e = rw (walk_zero B R C shown [] marks true) d
  walk_done zero (i ∷ st) marks l h d e = absurd (omega arith)
  walk_done (suc f) [] marks l h d e = rw (walk_nil B R C shown (suc f) marks true) d
  walk_done (suc f) (i ∷ st) marks l h d e = go (kind B shown marks i) refl (λ s m k b g y. walk_done f s m k b g y)
    where
      go : (k : Kind) → kind B shown marks i ≡ k
          → ((s m : List ℕ) → length m ≡ R * C → length s + 8 * free_count m ≤ f → Done B R C shown start m s
          → (walk B R C shown f s m true).whole ≡ true → Done B R C shown start (walk B R C shown f s m true).marks [])
          → Done B R C shown start (walk B R C shown (suc f) (i ∷ st) marks true).marks []
      go pass k rec =
          let w = walk_pass B R C shown f i st marks true k in
          rw w (rec st marks l (omega arith) (done_pass i st marks k d) (ap (λ (o : Walked). o.whole) (sym w) ∙ e))
      go stop k rec = absurd (false≢true (sym (ap (λ (o : Walked). o.whole) (walk_stop B R C shown f i st marks true k)) ∙ e))
      go mark k rec =
          let w = walk_mark B R C shown f i st marks true k in
          rw w (rec (pushed R C (free_at (set marks i 1)) i 8 st) (set marks i 1) (length-set marks i 1 ∙ l) (cost_mark B R C shown i marks st f k h) (done_mark i st marks l k d) (ap (λ (o : Walked). o.whole) (sym w) ∙ e))

  -- at the end each 0 of the opening has a mark
  pub joined_marked : (marks : List ℕ) → start < R * C → Done B R C shown start marks [] → (x : ℕ) → Joined B R C start x → (x < R * C) × (free_at marks x ≡ false)
  joined_marked marks h d x here = (h, go (free_at marks start) refl)
    where
      go : (b : Bool) → free_at marks start ≡ b → free_at marks start ≡ false
      go true e = absurd (d.first e)
      go false e = e
  joined_marked marks h d x (next i k j lt on z) = (on, go (joined_marked marks h d i j) (free_at marks (neighbour R C i k)) refl)
    where
      go : (i < R * C) × (free_at marks i ≡ false) → (b : Bool) → free_at marks (neighbour R C i k) ≡ b → free_at marks (neighbour R C i k) ≡ false
      go r true e = absurd (d.closed i r.0 r.1 k lt e z)
      go r false e = e

-- THE RULE OF THE PAPER
module _ (B : List ℤ) (R C : ℕ) (shown : List ℕ) (start : ℕ) (on : start < R * C) (z : face_at B start ≡ 0) where
  pub judged_no : judged_left B R C shown start ≡ false → Flagged B R C shown start
  unfolding judged_left walk_from
  judged_no e =
      let m = walk_met B R C shown (Joined B R C start) (λ i k j lt o y. next i k j lt o y) (turns (R * C)) (start ∷ []) (unmarked (R * C))
      (length-replicate (R * C) 0) (λ x s. ⊎_elim (λ p o y. rw p here) (λ b. absurd b) s) e in
      record { cell = m.0; joined = m.1.0; shows = m.1.1 }

  pub judged_yes : judged_left B R C shown start ≡ true → Flagged B R C shown start → ⊥
  unfolding judged_left walk_from
  judged_yes e f =
      let l = length-replicate {0} {A = ℕ} (R * C) 0 in
      let b = free_le (unmarked (R * C)) in
      let d = walk_done B R C shown start z (turns (R * C)) (start ∷ []) (unmarked (R * C)) l (omega arith)
      (record {
        closed = λ x lt m. absurd (true≢false (sym (free_fresh (R * C) x lt) ∙ m));
        first = λ m. inl refl;
        clean = λ x lt m. absurd (true≢false (sym (free_fresh (R * C) x lt) ∙ m));
      }) e in
      let m = joined_marked B R C shown start z _ on d f.cell f.joined in
      true≢false (sym (eq-eqb _ _ f.shows) ∙ d.clean f.cell m.0 m.1)

  -- judged yes exactly if no 0 joined to the start shows 11
  pub judged_left_flags : (judged_left B R C shown start ≡ true → Flagged B R C shown start → ⊥) × ((Flagged B R C shown start → ⊥) → judged_left B R C shown start ≡ true)
  judged_left_flags = (judged_yes, λ n. go n (judged_left B R C shown start) refl)
    where
      go : (Flagged B R C shown start → ⊥) → (b : Bool) → judged_left B R C shown start ≡ b → judged_left B R C shown start ≡ true
      go n true e = e
      go n false e = absurd (n (judged_no e))
