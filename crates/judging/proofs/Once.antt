-- Walks that are shown nothing, from whatever cells in whatever order, count each opening once: at its first cell.
use mathlib.Core.Path.{◌≡◌, refl, ap, ap₂, sym, ◌∙◌}
use mathlib.Core.Bool.{Bool, true, false, true≢false}
use mathlib.Core.List.{List, [], ◌∷◌}
use mathlib.Core.Logic.{◌⊎◌, inl, inr, ⊎_elim}
use Prim.Native.Nat.{ℕ, zero, suc, ◌+◌, ◌*◌, ◌<◌, ◌≤◌}
use native.Mathlib.Omega.{arith}
use borrow.Author.Tests.{ltb-true, ltb-false, eqb-true, eqb-false}
use lib.Dec.{ltb, eqb}
use lib.ListN.{length, set, length-set, length-replicate}
use lib.IntN.{ℤ}
use Rattle.rules.specs.Words.{bit}
use Rattle.rules.specs.Grid.{neighbour}
use Rattle.rules.specs.Board.{face_at}
use Rattle.rules.specs.Opening.{turns}
use Rattle.rules.specs.Judging.{free_at, Kind, pass, stop, mark, kind, walk, walk_from, Tally, judge_one, tally, openings_judged}
use Rattle.judging.specs.Joining.{In, Nought, From, Joined, here, next}
use Rattle.judging.proofs.Lists.{pushed_all}
use Rattle.judging.proofs.Turns.{free_fact, free_other, free_kept, free_fresh, mark_means, walk_zero, walk_nil, walk_pass, walk_stop, walk_mark, free_le}
use Rattle.judging.proofs.Judging.{judge_zero, judge_marked, judge_number, walk_long}
use Rattle.judging.proofs.Reach.{walk_met, walk_done, Done, joined_marked}

module _ (B : List ℤ) (R C : ℕ) (shown : List ℕ) where
  -- a mark stays
  walk_keeps : (f : ℕ) (st marks : List ℕ) (whole : Bool) (x : ℕ) → free_at marks x ≡ false → free_at (walk B R C shown f st marks whole).marks x ≡ false
  walk_keeps zero st marks whole x e = rw (walk_zero B R C shown st marks whole) e
  walk_keeps (suc f) [] marks whole x e = rw (walk_nil B R C shown (suc f) marks whole) e
  walk_keeps (suc f) (i ∷ st) marks whole x e = go (kind B shown marks i) refl (λ s m h. walk_keeps f s m whole x h)
    where
      go : (k : Kind) → kind B shown marks i ≡ k → ((s m : List ℕ) → free_at m x ≡ false → free_at (walk B R C shown f s m whole).marks x ≡ false)
          → free_at (walk B R C shown (suc f) (i ∷ st) marks whole).marks x ≡ false
      go pass k rec = rw (walk_pass B R C shown f i st marks whole k) (rec st marks e)
      go stop k rec = rw (walk_stop B R C shown f i st marks whole k) e
      go mark k rec =
          rw (walk_mark B R C shown f i st marks whole k)
          (rec _ (set marks i 1) (free_kept marks i x (free_fact marks i (mark_means B shown marks i k).free).0 e))

  module _ (P : ℕ → Type 0) (rule : (i k : ℕ) → P i → k < 8 → neighbour R C i k < R * C → face_at B (neighbour R C i k) ≡ 0 → P (neighbour R C i k)) where
    -- what a walk marks, it reached
    walk_only : (f : ℕ) (st marks : List ℕ) (whole : Bool) → length marks ≡ R * C → ((x : ℕ) → In x st → x < R * C → face_at B x ≡ 0 → P x)
        → (x : ℕ) → free_at (walk B R C shown f st marks whole).marks x ≡ false → (free_at marks x ≡ false) ⊎ P x
    walk_only zero st marks whole l a x e = inl (rw (walk_zero B R C shown st marks whole) at e)
    walk_only (suc f) [] marks whole l a x e = inl (rw (walk_nil B R C shown (suc f) marks whole) at e)
    walk_only (suc f) (i ∷ st) marks whole l a x e = go (kind B shown marks i) refl (λ s m h b d. walk_only f s m whole h b x d)
      where
        go : (k : Kind) → kind B shown marks i ≡ k
            → ((s m : List ℕ) → length m ≡ R * C → ((y : ℕ) → In y s → y < R * C → face_at B y ≡ 0 → P y) → free_at (walk B R C shown f s m whole).marks x ≡ false → (free_at m x ≡ false) ⊎ P x)
            → (free_at marks x ≡ false) ⊎ P x
        go pass k rec = rec st marks l (λ y s'. a y (inr s')) (rw (walk_pass B R C shown f i st marks whole k) at e)
        go stop k rec = inl (rw (walk_stop B R C shown f i st marks whole k) at e)
        go mark k rec =
            let s = mark_means B shown marks i k in
            let h : P i = a i (inl refl) (rw l at (free_fact marks i s.free).0) s.nought in
            ⊎_elim (λ d. which h (eqb x i) refl d) (λ r. inr r)
            (rec _ (set marks i 1) (length-set marks i 1 ∙ l) (pushed_all R C (free_at (set marks i 1)) i (λ y. y < R * C → face_at B y ≡ 0 → P y) 8 st (λ j lt on z. rule i j h lt on z) (λ y s'. a y (inr s'))) (rw (walk_mark B R C shown f i st marks whole k) at e))
          where
            which : P i → (b : Bool) → eqb x i ≡ b → free_at (set marks i 1) x ≡ false → (free_at marks x ≡ false) ⊎ P x
            which h true p d = inr (rw (eqb-true x i p) h)
            which h false p d = inl (sym (free_other marks i x (eqb-false x i p)) ∙ d)

module _ (B : List ℤ) (R C : ℕ) where
  -- the marks after the cells of a stack: the openings of the zeros among them, and nothing else
  pub record Scanned (st marks : List ℕ) : Type 0 where
    pub long : length marks ≡ R * C
    pub sound : (x : ℕ) → free_at marks x ≡ false → x < R * C → From B R C (λ j. In j st) x
    pub full : (j : ℕ) → In j st → face_at B j ≡ 0 → free_at marks j ≡ false
    pub closed : (x : ℕ) → x < R * C → free_at marks x ≡ false → (k : ℕ) → k < 8 → free_at marks (neighbour R C x k) ≡ true → face_at B (neighbour R C x k) ≡ 0 → ⊥

  deeper : (i : ℕ) (st : List ℕ) {x : ℕ} → From B R C (λ j. In j st) x → From B R C (λ j. In j (i ∷ st)) x
  deeper i st r = record { cell = r.cell; holds = inr r.holds; nought = r.nought; joined = r.joined }

  module _ (i : ℕ) (st marks : List ℕ) (s : Scanned st marks) where
    -- where nothing starts
    same_next : (face_at B i ≡ 0 → free_at marks i ≡ false) → Scanned (i ∷ st) marks
    same_next m =
        record {
          long = s.long;
          sound = λ x e lt. deeper i st (s.sound x e lt);
          full = λ j h z. ⊎_elim (λ p. rw p (m (rw p at z))) (λ t. s.full j t z) h;
          closed = s.closed;
        }

    module _ (on : i < R * C) (z : face_at B i ≡ 0) where
      fair : (x : ℕ) → In x (i ∷ []) → x < R * C → face_at B x ≡ 0 → Joined B R C i x
      fair x s' lt y = ⊎_elim (λ p. rw p here) (λ b. absurd b) s'

      -- no walk is stopped where no flag is shown
      never : (walk_from B R C [] i marks).whole ≡ true
      unfolding walk_from
      never = go (walk B R C [] (turns (R * C)) (i ∷ []) marks true).whole refl
        where
          go : (b : Bool) → (walk B R C [] (turns (R * C)) (i ∷ []) marks true).whole ≡ b → (walk B R C [] (turns (R * C)) (i ∷ []) marks true).whole ≡ true
          go true e = e
          go false e = let m = walk_met B R C [] (Joined B R C i) (λ i k j lt o y. next i k j lt o y) (turns (R * C)) (i ∷ []) marks s.long fair e in
              absurd (let h : ◌≡◌ {A = ℕ} 0 11 = m.1.1 in omega arith)

      walked : Done B R C [] i (walk_from B R C [] i marks).marks []
      unfolding walk_from
      walked =
          let b = free_le marks in
          let l = s.long in
          walk_done B R C [] i z (turns (R * C)) (i ∷ []) marks s.long (omega arith)
          (record { closed = λ x lt m k h e y. absurd (s.closed x lt m k h e y); first = λ m. inl refl; clean = λ x lt m. refl }) never'
        where
          never' : (walk B R C [] (turns (R * C)) (i ∷ []) marks true).whole ≡ true
          never' = never

      from_long : length (walk_from B R C [] i marks).marks ≡ R * C
      unfolding walk_from
      from_long = walk_long B R C [] (turns (R * C)) (i ∷ []) marks true ∙ s.long

      from_keeps : (x : ℕ) → free_at marks x ≡ false → free_at (walk_from B R C [] i marks).marks x ≡ false
      unfolding walk_from
      from_keeps x e = walk_keeps B R C [] (turns (R * C)) (i ∷ []) marks true x e

      from_only : (x : ℕ) → free_at (walk_from B R C [] i marks).marks x ≡ false → (free_at marks x ≡ false) ⊎ Joined B R C i x
      unfolding walk_from
      from_only x e = walk_only B R C [] (Joined B R C i) (λ i k j lt o y. next i k j lt o y) (turns (R * C)) (i ∷ []) marks true s.long fair x e

      -- where a walk starts
      walk_next : Scanned (i ∷ st) (walk_from B R C [] i marks).marks
      walk_next =
          record {
            long = from_long;
            sound = λ x e lt. ⊎_elim (λ m. deeper i st (s.sound x m lt)) (λ j. record { cell = i; holds = inl refl; nought = record { on = on; face = z }; joined = j }) (from_only x e);
            full = λ j h y. ⊎_elim (λ p. rw p (self (free_at (walk_from B R C [] i marks).marks i) refl)) (λ t. from_keeps j (s.full j t y)) h;
            closed = λ x lt m k h e y. walked.closed x lt m k h e y;
          }
        where
          self : (b : Bool) → free_at (walk_from B R C [] i marks).marks i ≡ b → free_at (walk_from B R C [] i marks).marks i ≡ false
          self true e = absurd (walked.first e)
          self false e = e

    -- an earlier 0 joined to i has left its mark there
    seen : From B R C (λ j. In j st) i → free_at marks i ≡ false
    seen r =
        (joined_marked B R C [] r.cell r.nought.face marks r.nought.on
        (record {
          closed = λ x o m k b e y. absurd (s.closed x o m k b e y);
          first = λ e. absurd (true≢false (sym e ∙ s.full r.cell r.holds r.nought.face));
          clean = λ x o m. refl;
        }) i r.joined).1

  scanned_next : (i : ℕ) (st : List ℕ) (t : Tally) → Scanned st t.marks → Scanned (i ∷ st) (judge_one B R C [] i t).marks
  scanned_next i st t s = go (free_at t.marks i) (eqb (face_at B i) 0) refl refl
    where
      go : (a b : Bool) → free_at t.marks i ≡ a → eqb (face_at B i) 0 ≡ b → Scanned (i ∷ st) (judge_one B R C [] i t).marks
      go true true e f = rw (judge_zero B R C [] i t e (eqb-true _ _ f)) (walk_next i st t.marks s (rw s.long at (free_fact t.marks i e).0) (eqb-true _ _ f))
      go false true e f = rw (judge_marked B R C [] i t e) (same_next i st t.marks s (λ z. e))
      go a false e f = rw (judge_number B R C [] i t (eqb-false _ _ f)) (same_next i st t.marks s (λ z. absurd (eqb-false _ _ f z)))

  pub scanned : (st : List ℕ) → Scanned st (tally B R C [] st).marks
  unfolding tally
  scanned [] =
      record {
        long = length-replicate (R * C) 0;
        sound = λ x e lt. absurd (true≢false (sym (free_fresh (R * C) x lt) ∙ e));
        full = λ j m. absurd m;
        closed = λ x lt e. absurd (true≢false (sym (free_fresh (R * C) x lt) ∙ e));
      }
  scanned (i ∷ st) = scanned_next i st (tally B R C [] st) (scanned st)

  -- what one cell more adds to the openings
  one_more : (i : ℕ) (st : List ℕ) (t : Tally) → judge_one B R C [] i (tally B R C [] st) ≡ t → openings_judged B R C [] (i ∷ st) ≡ t.count
  unfolding openings_judged tally
  one_more i st t e = ap (λ (x : Tally). x.count) e

  so_far : (st : List ℕ) → (tally B R C [] st).count ≡ openings_judged B R C [] st
  unfolding openings_judged
  so_far st = refl

  module _ (i : ℕ) (st : List ℕ) where
    -- the first 0 of an opening counts
    free_counts : (on : i < R * C) → face_at B i ≡ 0 → free_at (tally B R C [] st).marks i ≡ true → openings_judged B R C [] (i ∷ st) ≡ openings_judged B R C [] st + 1
    free_counts on z e =
        let t = tally B R C [] st in
        one_more i st _ (judge_zero B R C [] i t e z)
        ∙ ap₂ (λ (x : ℕ) (b : Bool). x + bit b) (so_far st) (never i st t.marks (scanned st) on z)

    pub opening_first : Nought B R C i → (From B R C (λ j. In j st) i → ⊥) → openings_judged B R C [] (i ∷ st) ≡ openings_judged B R C [] st + 1
    opening_first n h = go (free_at (tally B R C [] st).marks i) refl
      where
        go : (b : Bool) → free_at (tally B R C [] st).marks i ≡ b → openings_judged B R C [] (i ∷ st) ≡ openings_judged B R C [] st + 1
        go true e = free_counts n.on n.face e
        go false e = absurd (h ((scanned st).sound i e n.on))

    -- a later one does not
    pub opening_later : From B R C (λ j. In j st) i → openings_judged B R C [] (i ∷ st) ≡ openings_judged B R C [] st
    opening_later r = one_more i st _ (judge_marked B R C [] i (tally B R C [] st) (seen i st _ (scanned st) r)) ∙ so_far st

    -- nor does any other cell
    pub opening_other : (Nought B R C i → ⊥) → openings_judged B R C [] (i ∷ st) ≡ openings_judged B R C [] st
    opening_other h = go (free_at (tally B R C [] st).marks i) (eqb (face_at B i) 0) refl refl
      where
        go : (a b : Bool) → free_at (tally B R C [] st).marks i ≡ a → eqb (face_at B i) 0 ≡ b → openings_judged B R C [] (i ∷ st) ≡ openings_judged B R C [] st
        go true true e f = absurd (h (record { on = rw (scanned st).long at (free_fact _ i e).0; face = eqb-true _ _ f }))
        go false true e f = one_more i st _ (judge_marked B R C [] i (tally B R C [] st) e) ∙ so_far st
        go a false e f = one_more i st _ (judge_number B R C [] i (tally B R C [] st) (eqb-false _ _ f)) ∙ so_far st

    -- the cell is the first 0 of its opening, a later one, or none
    pub data Rank : Type 0 where
      first : Nought B R C i → (From B R C (λ j. In j st) i → ⊥) → Rank
      later : From B R C (λ j. In j st) i → Rank
      other : (Nought B R C i → ⊥) → Rank

    pub rank : Rank
    rank = go (free_at (tally B R C [] st).marks i) (eqb (face_at B i) 0) (ltb i (R * C)) refl refl refl
      where
        go : (a b d : Bool) → free_at (tally B R C [] st).marks i ≡ a → eqb (face_at B i) 0 ≡ b → ltb i (R * C) ≡ d → Rank
        go a b false e f g = other (λ n. let h = n.on in let l : R * C ≤ i = ltb-false _ _ g in omega arith)
        go a false true e f g = other (λ n. eqb-false _ _ f n.face)
        go true true true e f g = first (record { on = ltb-true _ _ g; face = eqb-true _ _ f }) (λ r. true≢false (sym e ∙ seen i st _ (scanned st) r))
        go false true true e f g = later ((scanned st).sound i e (ltb-true _ _ g))
