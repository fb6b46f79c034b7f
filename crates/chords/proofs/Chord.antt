-- A chord that cannot run changes nothing; any other leaves fewer cells closed, with room for the next.
use mathlib.Core.Path.{◌≡◌, refl, ap, ◌∙◌}
use mathlib.Core.Bool.{Bool, true, false}
use mathlib.Core.List.{List, [], ◌∷◌}
use mathlib.Core.Logic.{inl, ⊎_elim}
use Prim.Native.Nat.{ℕ, ◌+◌, ◌*◌, ◌<◌, ◌≤◌}
use native.Mathlib.Omega.{arith}
use borrow.Author.Tests.{ltb-true}
use lib.Dec.{eqb, ltb}
use lib.ListN.{length, get_or}
use lib.IntN.{ℤ}
use Rattle.rules.specs.declared.Secrets.{Secrets}
use Rattle.rules.specs.Grid.{around}
use Rattle.rules.specs.Opening.{closed_at, refreshed}
use Rattle.rules.specs.Judging.{openings_judged, lones}
use Rattle.rules.specs.Clicks.{Desk, rows_of, columns_of, cells_of, flag_at, chord_is_useful, closed_around, chord_counts, chord_opens, ended, perform_chord}
use Rattle.cells.specs.Ground.{Valued}
use Rattle.cells.proofs.Words.{and_right}
use Rattle.cells.proofs.Grid.{pushed_length, around_le}
use Rattle.opening.specs.Changed.{In}
use Rattle.opening.proofs.Lists.{all_pushed}
use Rattle.opening.proofs.Opening.{opening_length, opening_opens_some}
use Rattle.judging.proofs.Judging.{judged_lones_length}
use Rattle.cells.specs.Promises.{closed_in}
use Rattle.chords.specs.Fell.{Fell, idle, fell}
use Rattle.clicks.proofs.Ends.{Ending, ending}
use Rattle.chords.proofs.Steps.{chord_idle, chord_runs}

-- a useful chord has a closed neighbour
useful_some : (R C : ℕ) (shown : List ℕ) (i : ℕ) → chord_is_useful R C shown i ≡ true → 0 < around R C (closed_at shown) i
unfolding chord_is_useful
useful_some R C shown i e =
    ltb-true _ _ (and_right (eqb (around R C (flag_at shown) i) (get_or shown i 0)) _ (and_right (ltb (get_or shown i 0) 8) _ e))

closed_high : (R C : ℕ) (shown : List ℕ) (i : ℕ) → length (closed_around R C shown i) ≡ around R C (closed_at shown) i
unfolding around
closed_high R C shown i = let l = pushed_length R C (closed_at shown) i 8 [] in omega arith

closed_all : (R C : ℕ) (shown : List ℕ) (i x : ℕ) → In x (closed_around R C shown i) → closed_at shown x ≡ true
closed_all R C shown i = all_pushed R C (closed_at shown) i 8 [] (λ x. closed_at shown x ≡ true) (λ j h e. e) (λ x n. absurd n)

-- opening closed cells, at least one and at most eight, leaves fewer closed
opens_less : (B : List ℤ) (R C : ℕ) → Valued B → (st shown : List ℕ) → length shown ≡ R * C → 0 < length st → length st ≤ 8 → ((x : ℕ) → In x st → closed_at shown x ≡ true)
    → closed_in (refreshed B R C st shown).shown < closed_in shown
opens_less B R C v [] shown long some few all = absurd (omega arith)
opens_less B R C v (q ∷ st) shown long some few all = opening_opens_some B R C v q (q ∷ st) shown long few (inl refl) (all q (inl refl))

module _ (B : List ℤ) (v : Valued B) (i : ℕ) (d : Desk) (long : length d.shown ≡ cells_of d) where
  opens_fell : (st : List ℕ) → 0 < length st → length st ≤ 8 → ((x : ℕ) → In x st → closed_at d.shown x ≡ true) → Fell d (chord_opens B st d)
  unfolding chord_opens
  opens_fell st some few all =
      let R = rows_of d in
      let C = columns_of d in
      let o = refreshed B R C st d.shown in
      let x = ended 3 (chord_counts B st d) o in
      let e : Ending 3 (chord_counts B st d) o.shown x = ending 3 (chord_counts B st d) o in
      let less : closed_in x.desk.shown < closed_in d.shown = rw e.board (opens_less B R C v st d.shown long some few all) in
      fell (λ z. ⊎_elim (λ h. omega arith) (λ h. omega arith) e.answer) less (ap length e.board ∙ opening_length B R C st d.shown) e.settings e.bits
      (λ r.
      let s : x.desk.position.secrets.solved_chord ≡ d.position.secrets.solved_chord + lones B R C st + openings_judged B R C d.shown st = ap (λ (k : Secrets). k.solved_chord) e.secrets in
      let f : x.desk.position.counts.flag ≡ d.position.counts.flag = e.flag in
      let a = judged_lones_length B R C d.shown st in
      record { flag = omega (arith, r.flag); solved = omega (arith, r.solved) })

  -- THE LAW of a chord's room
  pub chord_fell : Fell d (perform_chord B i d)
  chord_fell = go (chord_is_useful (rows_of d) (columns_of d) d.shown i) refl
    where
      go : (b : Bool) → chord_is_useful (rows_of d) (columns_of d) d.shown i ≡ b → Fell d (perform_chord B i d)
      go false e = idle (chord_idle B i d e)
      go true e =
          let h = closed_high (rows_of d) (columns_of d) d.shown i in
          let s = useful_some (rows_of d) (columns_of d) d.shown i e in
          let m = around_le (rows_of d) (columns_of d) (closed_at d.shown) i in
          rw (chord_runs B i d e)
          (opens_fell (closed_around (rows_of d) (columns_of d) d.shown i) (omega arith) (omega arith) (closed_all (rows_of d) (columns_of d) d.shown i))
