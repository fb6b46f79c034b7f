-- A cell is touched, case by case; then neighbours and given cells, one more at a time.
use mathlib.Core.Path.{◌≡◌, refl, ap, sym, ◌∙◌}
use mathlib.Core.Bool.{Bool, true, false, ◌&&◌}
use mathlib.Core.List.{List, [], ◌∷◌}
use Prim.Native.Nat.{ℕ, zero, suc, ◌+◌, ◌-◌, ◌/◌, ◌%◌, ◌<◌, ◌≤◌}
use native.Mathlib.Omega.{arith}
use native.Mathlib.Numerals.{add-one}
use borrow.Author.Tests.{eq-eqb, ne_eqb}
use lib.Dec.{eqb}
use lib.ListN.{length, get_or, set, length-set}
use lib.Seq.{get_or-set_other}
use lib.IntN.{ℤ}
use Rattle.rules.specs.Words.{stack_of}
use Rattle.rules.specs.Grid.{cell_of, neighbour, push_if}
use Rattle.rules.specs.Board.{face_at}
use Rattle.rules.specs.Opening.{closed_at, count_shown}
use Rattle.rules.specs.Lawful.{shows}
use Rattle.cells.specs.Ground.{Valued, Below}
use Rattle.cells.proofs.Words.{stack_push, stack_length}
use Rattle.cells.proofs.Grid.{cell_back}
use Rattle.opening.specs.Quick.{Front, front, touched, touched_around, touched_all}
use Rattle.opening.specs.Parts.{Roomy, Seated, Moved}
use Rattle.opening.proofs.Cases.{closed_in, shown_open, shown_shut, hit_mine, hit_safe, hit_shut}
use Rattle.opening.proofs.Cost.{closed_pos, length_after}
use Rattle.opening.proofs.Quick.{touched_zero, touched_number, touched_shut, touched_shown, touched_hit, around_cost, all_cost}

stands_at : (s : Front) (st shown : List ℕ) (hit : Bool) → st ≡ s.stack → shown ≡ s.shown → hit ≡ s.hit → front st shown hit ≡ s
stands_at s st shown hit a b c = rw (a, b, c)

-- ---- one cell -----------------------------------------------------------------------------------------------------------------------------

module _ (B : List ℤ) (q t : ℕ) (shown w : List ℕ) (hit : Bool) where
  opened_shown : (v : ℕ) → closed_at shown q ≡ true → v ≡ face_at B q → set shown q v ≡ (touched B q (front (stack_of w t) shown hit)).shown
  opened_shown v e f = ap (λ (x : ℕ). set shown q x) f ∙ sym (shown_open B 0 0 shown q e) ∙ sym (touched_shown B q (front (stack_of w t) shown hit))

  pub moved_zero : (v : ℕ) → closed_at shown q ≡ true → v ≡ face_at B q → v ≡ 0 → t < length w
      → Moved (touched B q (front (stack_of w t) shown hit)) w t (set shown q v) (set w t q) (t + 1) hit
  moved_zero v e f z r =
      record {
        stands =
            stands_at (touched B q (front (stack_of w t) shown hit)) (stack_of (set w t q) (t + 1)) (set shown q v) hit
            (stack_push w t q r ∙ sym (touched_zero B q (front (stack_of w t) shown hit) e (sym f ∙ z))) (opened_shown v e f)
            (sym (hit_safe B 0 0 shown q hit (ne_eqb (face_at B q) 15 (λ h. omega arith))) ∙ sym (touched_hit B q (front (stack_of w t) shown hit)));
        frame = λ i le. get_or-set_other w t i q 0 (λ (d : i ≡ t). omega arith);
        up = omega arith;
      }

  pub moved_mine : (v : ℕ) → closed_at shown q ≡ true → v ≡ face_at B q → v ≡ 15 → Moved (touched B q (front (stack_of w t) shown hit)) w t (set shown q v) w t true
  moved_mine v e f z =
      record {
        stands =
            stands_at (touched B q (front (stack_of w t) shown hit)) (stack_of w t) (set shown q v) true
            (sym (touched_number B q (front (stack_of w t) shown hit) (λ h. omega arith))) (opened_shown v e f)
            (sym (hit_mine B 0 0 shown q hit e (eq-eqb (face_at B q) 15 (sym f ∙ z))) ∙ sym (touched_hit B q (front (stack_of w t) shown hit)));
        frame = λ i le. refl;
        up = omega arith;
      }

  pub moved_number : (v : ℕ) → closed_at shown q ≡ true → v ≡ face_at B q → (v ≡ 0 → ⊥) → (v ≡ 15 → ⊥) → Moved (touched B q (front (stack_of w t) shown hit)) w t (set shown q v) w t hit
  moved_number v e f z m =
      record {
        stands =
            stands_at (touched B q (front (stack_of w t) shown hit)) (stack_of w t) (set shown q v) hit
            (sym (touched_number B q (front (stack_of w t) shown hit) (λ h. z (f ∙ h)))) (opened_shown v e f)
            (sym (hit_safe B 0 0 shown q hit (ne_eqb (face_at B q) 15 (λ h. m (f ∙ h)))) ∙ sym (touched_hit B q (front (stack_of w t) shown hit)));
        frame = λ i le. refl;
        up = omega arith;
      }

  pub moved_shut : closed_at shown q ≡ false → Moved (touched B q (front (stack_of w t) shown hit)) w t shown w t hit
  moved_shut e =
      record {
        stands =
            stands_at (touched B q (front (stack_of w t) shown hit)) (stack_of w t) shown hit
            (sym (touched_shut B q (front (stack_of w t) shown hit) e)) (sym (shown_shut B 0 0 shown q e) ∙ sym (touched_shown B q (front (stack_of w t) shown hit)))
            (sym (hit_shut B 0 0 shown q hit e) ∙ sym (touched_hit B q (front (stack_of w t) shown hit)));
        frame = λ i le. refl;
        up = omega arith;
      }

-- where a cell is closed there is room for it, and its number is small
pub roomy_closed : (B : List ℤ) (shown w : List ℕ) (t q : ℕ) → Roomy B shown w t → closed_at shown q ≡ true → (q < length shown) × ((q ≤ 2048) × (t < length w))
roomy_closed B shown w t q r e =
    let l = closed_in shown q e in
    let p = closed_pos shown q e in
    (l, (omega (arith, r.small), omega (arith, r.room)))

-- ---- one more -----------------------------------------------------------------------------------------------------------------------------

pub moved_start : (w : List ℕ) (t : ℕ) (shown : List ℕ) (hit : Bool) → Moved (front (stack_of w t) shown hit) w t shown w t hit
moved_start w t shown hit = record { stands = refl; frame = λ i le. refl; up = omega arith }

-- a touch after what was before
moved_touch : (B : List ℤ) (q : ℕ) (s : Front) (w₀ : List ℕ) (t₀ : ℕ) (shown w : List ℕ) (t : ℕ) (hit : Bool) (shown' w' : List ℕ) (t' : ℕ) (hit' : Bool)
    → Moved s w₀ t₀ shown w t hit → Moved (touched B q (front (stack_of w t) shown hit)) w t shown' w' t' hit' → Moved (touched B q s) w₀ t₀ shown' w' t' hit'
moved_touch B q s w₀ t₀ shown w t hit shown' w' t' hit' m n =
    record {
      stands = n.stands ∙ ap (touched B q) m.stands;
      frame = λ i le. n.frame i le ∙ m.frame i (let u = n.up in omega arith);
      up = let a = m.up in let b = n.up in omega arith;
    }

-- one neighbour more
pub around_more : (B : List ℤ) (R C c k : ℕ) (s : Front) (w₀ : List ℕ) (t₀ : ℕ) (shown w : List ℕ) (t : ℕ) (hit : Bool) (shown' w' : List ℕ) (t' : ℕ) (hit' : Bool) (q : ℕ)
    → q ≡ neighbour R C c k → Moved (touched_around B R C c k s) w₀ t₀ shown w t hit
    → Moved (touched B q (front (stack_of w t) shown hit)) w t shown' w' t' hit' → Moved (touched_around B R C c (k + 1) s) w₀ t₀ shown' w' t' hit'
unfolding touched_around
around_more B R C c k s w₀ t₀ shown w t hit shown' w' t' hit' q e m n =
    rw (add-one k, ← e) (moved_touch B q (touched_around B R C c k s) w₀ t₀ shown w t hit shown' w' t' hit' m n)

pub around_none : (B : List ℤ) (R C c : ℕ) (w : List ℕ) (t : ℕ) (shown : List ℕ) (hit : Bool) → Moved (touched_around B R C c 0 (front (stack_of w t) shown hit)) w t shown w t hit
unfolding touched_around
around_none B R C c w t shown hit = moved_start w t shown hit

-- one given cell more
pub all_more : (B : List ℤ) (given : List ℕ) (i : ℕ) (s : Front) (w₀ : List ℕ) (t₀ : ℕ) (shown w : List ℕ) (t : ℕ) (hit : Bool) (shown' w' : List ℕ) (t' : ℕ) (hit' : Bool)
    → Moved (touched_all B (stack_of given i) s) w₀ t₀ shown w t hit
    → Moved (touched B (get_or given i 0) (front (stack_of w t) shown hit)) w t shown' w' t' hit' → Moved (touched_all B (stack_of given (i + 1)) s) w₀ t₀ shown' w' t' hit'
unfolding touched_all stack_of
all_more B given i s w₀ t₀ shown w t hit shown' w' t' hit' m n =
    rw (add-one i) (moved_touch B (get_or given i 0) (touched_all B (stack_of given i) s) w₀ t₀ shown w t hit shown' w' t' hit' m n)

pub all_none : (B : List ℤ) (given w shown : List ℕ) → Moved (touched_all B (stack_of given 0) (front [] shown false)) w 0 shown w 0 false
unfolding touched_all stack_of
all_none B given w shown = moved_start w 0 shown false

-- ---- room ---------------------------------------------------------------------------------------------------------------------------------

-- the height of a stack that stands in the work
height : (s : Front) (w : List ℕ) (t : ℕ) (shown' w' : List ℕ) (t' : ℕ) (hit' : Bool) → Moved s w t shown' w' t' hit' → (t' ≡ length s.stack) × (count_shown (shows 10) shown' ≡ count_shown (shows 10) s.shown)
height s w t shown' w' t' hit' m =
    (sym (stack_length w' t') ∙ ap (λ (x : Front). length x.stack) m.stands, ap (λ (x : Front). count_shown (shows 10) x.shown) m.stands)

module _ (B : List ℤ) (shown w : List ℕ) (t : ℕ) (hit : Bool) (shown' w' : List ℕ) (t' : ℕ) (hit' : Bool) (v : Valued B) where
  -- stack and closed cells together never grow
  pub around_height : (R C c n : ℕ) → Moved (touched_around B R C c n (front (stack_of w t) shown hit)) w t shown' w' t' hit'
      → t' + count_shown (shows 10) shown' ≤ t + count_shown (shows 10) shown
  around_height R C c n m =
      let h = height (touched_around B R C c n (front (stack_of w t) shown hit)) w t shown' w' t' hit' m in
      let c = around_cost B v R C c n (front (stack_of w t) shown hit) in
      let l = stack_length w t in
      omega (arith, h.0, h.1)

pub all_height : (B : List ℤ) (given shown w shown' w' : List ℕ) (t' : ℕ) (hit' : Bool) → Valued B → Moved (touched_all B given (front [] shown false)) w 0 shown' w' t' hit'
    → t' + count_shown (shows 10) shown' ≤ 0 + count_shown (shows 10) shown
all_height B given shown w shown' w' t' hit' v m =
    let h = height (touched_all B given (front [] shown false)) w 0 shown' w' t' hit' m in
    let c = all_cost B v given (front [] shown false) in
    omega (arith, h.0, h.1)

pub roomy_again : (B : List ℤ) (shown w : List ℕ) (t : ℕ) (shown' w' : List ℕ) (t' : ℕ) → Roomy B shown w t → length shown' ≡ length shown → length w' ≡ length w
    → t' + count_shown (shows 10) shown' ≤ t + count_shown (shows 10) shown → Roomy B shown' w' t'
roomy_again B shown w t shown' w' t' r a b h =
    record { valued = r.valued; same = r.same ∙ sym a; small = omega (arith, r.small); room = omega (arith, r.room) }

-- ---- the stack stays on the board ---------------------------------------------------------------------------------------------------------

below_touched : (B : List ℤ) (q : ℕ) (s : Front) → Below (length s.shown) s.stack → Below (length s.shown) (touched B q s).stack
unfolding touched
below_touched B q s b = go (closed_at s.shown q) (eqb (face_at B q) 0) refl
  where
    go : (x y : Bool) → closed_at s.shown q ≡ x → Below (length s.shown) (push_if (x && y) q s.stack)
    go true true e = (closed_in s.shown q e, b)
    go true false e = b
    go false y e = b

touched_long : (B : List ℤ) (q : ℕ) (s : Front) → length (touched B q s).shown ≡ length s.shown
touched_long B q s = ap length (touched_shown B q s) ∙ length_after B s.shown q

pub around_below : (B : List ℤ) (R C c n m : ℕ) (s : Front) → length s.shown ≡ m → Below m s.stack
    → (length (touched_around B R C c n s).shown ≡ m) × Below m (touched_around B R C c n s).stack
unfolding touched_around
around_below B R C c zero m s l b = (l, b)
around_below B R C c (suc n) m s l b =
    let r = around_below B R C c n m s l b in
    let e = r.0 in
    (touched_long B (neighbour R C c n) (touched_around B R C c n s) ∙ e, rw e at (below_touched B (neighbour R C c n) (touched_around B R C c n s) (rw e r.1)))

pub all_below : (B : List ℤ) (given : List ℕ) (m : ℕ) (s : Front) → length s.shown ≡ m → Below m s.stack
    → (length (touched_all B given s).shown ≡ m) × Below m (touched_all B given s).stack
unfolding touched_all
all_below B [] m s l b = (l, b)
all_below B (q ∷ given) m s l b =
    let r = all_below B given m s l b in
    let e = r.0 in
    (touched_long B q (touched_all B given s) ∙ e, rw e at (below_touched B q (touched_all B given s) (rw e r.1)))

-- ---- the top is taken off -----------------------------------------------------------------------------------------------------------------

pub seated_popped : (B : List ℤ) (R C : ℕ) (shown w : List ℕ) (top : ℕ) → Seated B R C shown w top → Seated B R C shown (set w (top - 1) 0) (top - 1)
seated_popped B R C shown w top s =
    record {
      sized = s.sized;
      board = s.board;
      roomy = roomy_again B shown w top shown (set w (top - 1) 0) (top - 1) s.roomy refl (length-set w (top - 1) 0) (omega arith);
    }

-- the cell that was taken apart into its row and column
pub around_back : (B : List ℤ) (R C i : ℕ) (s : Front) (w : List ℕ) (t : ℕ) (shown' w' : List ℕ) (t' : ℕ) (hit' : Bool)
    → Moved (touched_around B R C (cell_of C (i / C) (i % C)) 8 s) w t shown' w' t' hit' → Moved (touched_around B R C i 8 s) w t shown' w' t' hit'
around_back B R C i s w t shown' w' t' hit' m = rw (cell_back C i) at m
