-- The ways through a turn of the code, each as the turn of the definition; and the invariant of a walk: what is left to do leads to the
-- outcome, within the turns and the room that are left.
use mathlib.Core.Path.{◌≡◌, refl, ap, ap₂, sym, ◌∙◌}
use mathlib.Core.Bool.{Bool, true, false}
use mathlib.Core.List.{List, [], ◌∷◌}
use Prim.Native.Nat.{ℕ, zero, suc, ◌+◌, ◌-◌, ◌*◌, ◌<◌, ◌≤◌}
use native.Mathlib.Omega.{arith}
use lib.Dec.{eqb}
use lib.ListN.{length, get_or, set, length-set}
use lib.Seq.{get_or-set_same, get_or-set_other}
use lib.IntN.{ℤ}
use Rattle.rules.specs.Words.{stack_of}
use Rattle.rules.specs.Grid.{pushed}
use Rattle.rules.specs.Board.{face_at}
use Rattle.rules.specs.Lent.{work_room}
use Rattle.rules.specs.Opening.{turns}
use Rattle.rules.specs.Judging.{free_at, pass, kind, walk, walk_from}
use Rattle.cells.proofs.Words.{stack_above, stack_length}
use Rattle.cells.specs.Stack.{Rest, Grown}
use Rattle.judging.specs.Parts.{stack_room, marks_of, Walkable, Stepped, Went}
use Rattle.judging.proofs.Turns.{stack_next, marks_next, whole_next, kind_marked, kind_number, kind_flag, kind_zero, walk_nil, walk_cons, free_count, free_le, free_pos, cheaper}
use Rattle.judging.proofs.Marks.{marks_length, marks_frame, marks_set}

none : (w : List ℕ) → stack_of w 0 ≡ []
unfolding stack_of
none w = refl

-- ---- one turn ------------------------------------------------------------------------------------------------------------------------

module _ (B : List ℤ) (R C : ℕ) (shown : List ℕ) (i t : ℕ) (w : List ℕ) (whole : Bool) where
  stepped_pass : kind B shown (marks_of (R * C) w) i ≡ pass → Stepped B R C shown i t w whole w t whole
  stepped_pass k = record { stack = rw k refl; marks = rw k refl; judged = rw k refl; rest = λ j le. refl }

  pub stepped_marked : free_at (marks_of (R * C) w) i ≡ false → Stepped B R C shown i t w whole w t whole
  stepped_marked e = stepped_pass (kind_marked B shown (marks_of (R * C) w) i e)

  pub stepped_number : (v : ℕ) → v ≡ face_at B i → (v ≡ 0 → ⊥) → Stepped B R C shown i t w whole w t whole
  stepped_number v f n = stepped_pass (kind_number B shown (marks_of (R * C) w) i (λ z. n (f ∙ z)))

  pub stepped_stop : (v : ℕ) (g : Bool) → free_at (marks_of (R * C) w) i ≡ true → v ≡ face_at B i → v ≡ 0 → g ≡ eqb (get_or shown i 0) 11 → g ≡ true → Stepped B R C shown i t w whole w 0 false
  stepped_stop v g e f z d y =
      let k = kind_flag B shown (marks_of (R * C) w) i e (sym f ∙ z) (sym d ∙ y) in
      record { stack = rw k (none w); marks = rw k refl; judged = rw k refl; rest = λ j le. refl }

  pub stepped_mark : (v : ℕ) (g : Bool) → free_at (marks_of (R * C) w) i ≡ true → v ≡ face_at B i → v ≡ 0 → g ≡ eqb (get_or shown i 0) 11 → g ≡ false
      → work_room (R * C) ≤ length w → i < R * C → t ≤ 7 * (R * C) → (w' : List ℕ) (t' : ℕ)
      → Grown (set w (stack_room (R * C) + i) 1) t 8
      (pushed R C (free_at (marks_of (R * C) (set w (stack_room (R * C) + i) 1))) i 8 (stack_of (set w (stack_room (R * C) + i) 1) t)) w' t'
      → length w' ≡ length w
      → Stepped B R C shown i t w whole w' t' whole
  stepped_mark v g e f z d y room on low w' t' gr l =
      let k = kind_zero B shown (marks_of (R * C) w) i e (sym f ∙ z) (sym d ∙ y) in
      let room' : work_room (R * C) ≤ length (set w (stack_room (R * C) + i) 1) = simp length-set room in
      let m = marks_set (R * C) w room i on in
      record {
        stack =
            rw k
            (gr.stack
            ∙ ap₂ (λ (a s : List ℕ). pushed R C (free_at a) i 8 s) m (stack_above w (stack_room (R * C) + i) 1 t (omega arith)));
        marks =
            rw k
            (marks_frame (R * C) (set w (stack_room (R * C) + i) 1) room' w' t' (omega (arith, gr.most)) gr.frame (l ∙ sym (length-set w (stack_room (R * C) + i) 1))
            ∙ m);
        judged = rw k refl;
        rest = λ j le. gr.frame j (omega (arith, gr.most)) ∙ get_or-set_other w (stack_room (R * C) + i) j 1 0 (λ (n : j ≡ stack_room (R * C) + i). omega arith);
      }

-- ---- the whole walk ------------------------------------------------------------------------------------------------------------------

pub record Walking (B : List ℤ) (R C : ℕ) (shown : List ℕ) (start : ℕ) (w₀ w : List ℕ) (top : ℕ) (whole : Bool) : Type 0 where
  pub fuel : ℕ
  pub same : walk B R C shown fuel (stack_of w top) (marks_of (R * C) w) whole ≡ walk_from B R C shown start (marks_of (R * C) w₀)
  pub enough : top + 8 * free_count (marks_of (R * C) w) ≤ fuel
  pub low : top + 7 * free_count (marks_of (R * C) w) ≤ stack_room (R * C)
  pub rest : Rest (work_room (R * C)) w₀ w
  pub long : length w ≡ length w₀

stack_one : (w : List ℕ) (q : ℕ) → get_or w 0 0 ≡ q → stack_of w 1 ≡ q ∷ []
unfolding stack_of
stack_one w q e = ap (λ (x : ℕ). x ∷ []) e

walking_from : (B : List ℤ) (R C : ℕ) (shown : List ℕ) (start : ℕ) (w : List ℕ) → work_room (R * C) ≤ length w → get_or w 0 0 ≡ start → Walking B R C shown start w w 1 true
unfolding walk_from
walking_from B R C shown start w room e =
    let h : free_count (marks_of (R * C) w) ≤ R * C = let a = free_le (marks_of (R * C) w) in let b = marks_length (R * C) w room in omega arith in
    record {
      fuel = turns (R * C);
      same = ap (λ (s : List ℕ). walk B R C shown (turns (R * C)) s (marks_of (R * C) w) true) (stack_one w start e);
      enough = omega arith;
      low = omega arith;
      rest = λ i le. refl;
      long = refl;
    }

-- the first cell is laid on the stack
module _ (B : List ℤ) (R C : ℕ) (shown : List ℕ) (start : ℕ) (w : List ℕ) (f : Walkable B w R C) where
  pub laid_fits : Walkable B (set w 0 start) R C
  laid_fits = record { mined = f.mined; room = simp length-set f.room }

  pub walking_start : Walking B R C shown start (set w 0 start) (set w 0 start) 1 true
  walking_start = walking_from B R C shown start (set w 0 start) laid_fits.room (let r = f.room in get_or-set_same w 0 start 0 (omega arith))

  pub went_laid : (w' : List ℕ) (whole : Bool) → Went B R C shown start (set w 0 start) w' whole → Went B R C shown start w w' whole
  went_laid w' whole g =
      let m : marks_of (R * C) (set w 0 start) ≡ marks_of (R * C) w =
      marks_frame (R * C) w f.room (set w 0 start) 1 (omega arith) (λ i le. get_or-set_other w 0 i start 0 (λ (e : i ≡ 0). omega arith)) (length-set w 0 start) in
      record {
        outcome = ap (λ (a : List ℕ). walk_from B R C shown start a) (sym m) ∙ g.outcome;
        rest = λ i le. g.rest i le ∙ get_or-set_other w 0 i start 0 (λ (e : i ≡ 0). omega arith);
      }

walk_turn : (B : List ℤ) (R C : ℕ) (shown : List ℕ) (f t : ℕ) (w marks : List ℕ) (whole : Bool)
    → walk B R C shown (suc f) (stack_of w (suc t)) marks whole
    ≡ walk B R C shown f (stack_next B R C shown (get_or w t 0) marks (stack_of w t)) (marks_next B shown (get_or w t 0) marks) (whole_next B shown (get_or w t 0) marks whole)
unfolding stack_of
walk_turn B R C shown f t w marks whole = walk_cons B R C shown f (get_or w t 0) (stack_of w t) marks whole

walk_empty : (B : List ℤ) (R C : ℕ) (shown : List ℕ) (f : ℕ) (w marks : List ℕ) (whole : Bool) → walk B R C shown f (stack_of w 0) marks whole ≡ record { marks = marks; whole = whole }
walk_empty B R C shown f w marks whole = rw (none w) (walk_nil B R C shown f marks whole)

module _ (B : List ℤ) (R C : ℕ) (shown : List ℕ) (start : ℕ) (w₀ w : List ℕ) (top t : ℕ) (whole : Bool) (w' : List ℕ) (t' : ℕ) (whole' : Bool)
    (at_top : top ≡ suc t)
    (g : Walking B R C shown start w₀ w top whole)
    (tn : Stepped B R C shown (get_or w t 0) t w whole w' t' whole') (kept : length w' ≡ length w) where
  high : t' ≡ length (stack_next B R C shown (get_or w t 0) (marks_of (R * C) w) (stack_of w t))
  high = sym (stack_length w' t') ∙ ap length tn.stack

  cost : (t' + 8 * free_count (marks_of (R * C) w') ≤ t + 8 * free_count (marks_of (R * C) w)) × (t' + 7 * free_count (marks_of (R * C) w') ≤ suc t + 7 * free_count (marks_of (R * C) w))
  cost =
      let ch = cheaper B R C shown (get_or w t 0) (marks_of (R * C) w) (stack_of w t) in
      let h = high in
      let l = stack_length w t in
      let k : free_count (marks_of (R * C) w') ≡ free_count (marks_next B shown (get_or w t 0) (marks_of (R * C) w)) = ap free_count tn.marks in
      (omega (arith, ch.turns), omega (arith, ch.room))

  same_next : (f : ℕ) → walk B R C shown (suc f) (stack_of w top) (marks_of (R * C) w) whole ≡ walk_from B R C shown start (marks_of (R * C) w₀)
      → walk B R C shown f (stack_of w' t') (marks_of (R * C) w') whole' ≡ walk_from B R C shown start (marks_of (R * C) w₀)
  same_next f s = cc (walk_turn B R C shown f t w (marks_of (R * C) w) whole, ap (λ (n : ℕ). stack_of w n) at_top)

  next : (f : ℕ) → f ≡ g.fuel → Walking B R C shown start w₀ w' t' whole'
  next zero e = absurd (let n = g.enough in omega arith)
  next (suc f) e =
      record {
        fuel = f;
        same = same_next f (rw e g.same);
        enough = let c = cost.0 in let n = g.enough in omega arith;
        low = let c = cost.1 in let n = g.low in omega arith;
        rest = λ i le. tn.rest i le ∙ g.rest i le;
        long = kept ∙ g.long;
      }

  pub walking_next : Walking B R C shown start w₀ w' t' whole' × (t' + 8 * free_count (marks_of (R * C) w') < top + 8 * free_count (marks_of (R * C) w))
  walking_next = (next g.fuel refl, let c = cost.0 in omega arith)

module _ (B : List ℤ) (R C : ℕ) (shown : List ℕ) (start : ℕ) (w₀ w : List ℕ) (top : ℕ) (whole : Bool) (g : Walking B R C shown start w₀ w top whole) where
  pub walking_asks : Walkable B w₀ R C → 0 < top
      → Walkable B w R C × ((0 < top) × ((top ≤ stack_room (R * C)) × (free_at (marks_of (R * C) w) (get_or w (top - 1) 0) ≡ true → top ≤ 7 * (R * C) + 1)))
  walking_asks f h = (
    record { mined = f.mined; room = rw g.long f.room },
    (h, (let n = g.low in omega arith, λ e. let p = free_pos (marks_of (R * C) w) (get_or w (top - 1) 0) e in let n = g.low in omega arith)),
  )

  pub walking_turn : (w' : List ℕ) (t' : ℕ) (whole' : Bool) → 0 < top
      → Stepped B R C shown (get_or w (top - 1) 0) (top - 1) w whole w' t' whole' → length w' ≡ length w
      → Walking B R C shown start w₀ w' t' whole' × (t' + 8 * free_count (marks_of (R * C) w') < top + 8 * free_count (marks_of (R * C) w))
  walking_turn w' t' whole' h tn kept = walking_next B R C shown start w₀ w top (top - 1) whole w' t' whole' (omega arith) g tn kept

  pub walking_done : top ≡ 0 → Went B R C shown start w₀ w whole
  walking_done e =
      record {
        outcome = sym g.same ∙ rw e (walk_empty B R C shown g.fuel w (marks_of (R * C) w) whole);
        rest = g.rest;
      }
