-- The invariant of the loop: what is left to do leads to the outcome, within the turns and the room that are left.
use mathlib.Core.Path.{◌≡◌, refl, ap, sym, ◌∙◌}
use mathlib.Core.Bool.{Bool, true, false}
use mathlib.Core.List.{List}
use Prim.Native.Nat.{ℕ, zero, suc, ◌+◌, ◌-◌, ◌*◌, ◌<◌, ◌≤◌}
use native.Mathlib.Omega.{arith}
use borrow.Author.Tests.{eqb-true, eqb-false}
use lib.Dec.{eqb}
use lib.ListN.{length, get_or, set}
use lib.Seq.{get_or-set_same, get_or-set_other}
use lib.IntN.{ℤ}
use Rattle.rules.specs.Words.{stack_of}
use Rattle.rules.specs.Lent.{work_room}
use Rattle.rules.specs.Opening.{count_shown}
use Rattle.rules.specs.Lawful.{shows}
use Rattle.cells.specs.Ground.{Valued, Below, Fitting}
use Rattle.cells.proofs.Words.{stack_above}
use Rattle.opening.specs.Quick.{Front, front, touched_around, quick, quick_from}
use Rattle.opening.specs.Parts.{Spare, Rest, Seated, Moved, Worked}
use Rattle.opening.proofs.Touching.{around_height, around_below}

pub record Going (B : List ℤ) (R C top₀ : ℕ) (hit₀ : Bool) (shown₀ w₀ shown w : List ℕ) (top : ℕ) (hit : Bool) : Type 0 where
  pub fuel : ℕ
  pub same : quick B R C fuel (stack_of w top) shown hit ≡ quick B R C (R * C) (stack_of w₀ top₀) shown₀ hit₀
  pub enough : top + count_shown (shows 10) shown ≤ fuel
  pub low : top + count_shown (shows 10) shown ≤ R * C
  pub below : Below (R * C) (stack_of w top)
  pub spare : Spare top (work_room (R * C)) w
  pub rest : Rest (work_room (R * C)) w₀ w
  pub board : length shown ≡ R * C
  pub long : length w ≡ length w₀

pub going_start : (B : List ℤ) (R C top : ℕ) (hit : Bool) (shown w : List ℕ) → Fitting B shown w R C → top + count_shown (shows 10) shown ≤ R * C
    → Below (R * C) (stack_of w top) → Spare top (work_room (R * C)) w → Going B R C top hit shown w shown w top hit
going_start B R C top hit shown w f l b s =
    record { fuel = R * C; same = refl; enough = l; low = l; below = b; spare = s; rest = λ i le. refl; board = f.board; long = refl }

quick_turn : (B : List ℤ) (R C f t : ℕ) (w shown : List ℕ) (hit : Bool)
    → quick B R C (suc f) (stack_of w (suc t)) shown hit ≡ quick_from B R C f (touched_around B R C (get_or w t 0) 8 (front (stack_of w t) shown hit))
unfolding quick stack_of
quick_turn B R C f t w shown hit = refl

quick_empty : (B : List ℤ) (R C f : ℕ) (w shown : List ℕ) (hit : Bool) → quick B R C f (stack_of w 0) shown hit ≡ record { shown = shown; hit = hit }
unfolding quick stack_of
quick_empty B R C zero w shown hit = refl
quick_empty B R C (suc f) w shown hit = refl

-- the top cell and the rest are on the board
top_below : (n : ℕ) (w : List ℕ) (top t : ℕ) → top ≡ suc t → Below n (stack_of w top) → (get_or w t 0 < n) × Below n (stack_of w t)
unfolding stack_of
top_below n w top t e b = rw e at b

module _ (B : List ℤ) (R C top₀ : ℕ) (hit₀ : Bool) (shown₀ w₀ shown w : List ℕ) (top t : ℕ) (hit : Bool) (shown' w' : List ℕ) (t' : ℕ) (hit' : Bool)
    (at_top : top ≡ suc t) (room : work_room (R * C) ≤ length w) (v : Valued B)
    (g : Going B R C top₀ hit₀ shown₀ w₀ shown w top hit)
    (m : Moved (touched_around B R C (get_or w t 0) 8 (front (stack_of (set w t 0) t) shown hit)) (set w t 0) t shown' w' t' hit') (kept : length w' ≡ length w) where
  under : stack_of (set w t 0) t ≡ stack_of w t
  under = stack_above w t 0 t (omega arith)

  pub cost : t' + count_shown (shows 10) shown' ≤ t + count_shown (shows 10) shown
  cost = around_height B shown (set w t 0) t hit shown' w' t' hit' v R C (get_or w t 0) 8 m

  same_next : (f : ℕ) → quick B R C (suc f) (stack_of w top) shown hit ≡ quick B R C (R * C) (stack_of w₀ top₀) shown₀ hit₀
      → quick B R C f (stack_of w' t') shown' hit' ≡ quick B R C (R * C) (stack_of w₀ top₀) shown₀ hit₀
  same_next f s =
      ap (quick_from B R C f) m.stands
      ∙ ap (λ (st : List ℕ). quick_from B R C f (touched_around B R C (get_or w t 0) 8 (front st shown hit))) under
      ∙ sym (quick_turn B R C f t w shown hit)
      ∙ ap (λ (n : ℕ). quick B R C (suc f) (stack_of w n) shown hit) (sym at_top)
      ∙ s

  after : (length (touched_around B R C (get_or w t 0) 8 (front (stack_of (set w t 0) t) shown hit)).shown ≡ R * C) × Below (R * C) (touched_around B R C (get_or w t 0) 8 (front (stack_of (set w t 0) t) shown hit)).stack
  after = around_below B R C (get_or w t 0) 8 (R * C) (front (stack_of (set w t 0) t) shown hit) g.board (rw under (top_below (R * C) w top t at_top g.below).1)

  spare_next : Spare t' (work_room (R * C)) w'
  spare_next i le lt = m.frame i le ∙ go (eqb i t) refl
    where
      go : (b : Bool) → eqb i t ≡ b → get_or (set w t 0) i 0 ≡ 0
      go true e = rw (eqb-true i t e) (get_or-set_same w t 0 0 (omega arith))
      go false e = get_or-set_other w t i 0 0 (eqb-false i t e) ∙ g.spare i (let u = m.up in let n = eqb-false i t e in omega arith) lt

  rest_next : Rest (work_room (R * C)) w₀ w'
  rest_next i le =
      let c = cost in
      let l = g.low in
      m.frame i (omega arith) ∙ get_or-set_other w t i 0 0 (λ (e : i ≡ t). omega arith) ∙ g.rest i le

  next : (f : ℕ) → f ≡ g.fuel → Going B R C top₀ hit₀ shown₀ w₀ shown' w' t' hit'
  next zero e = absurd (omega (arith, g.enough))
  next (suc f) e =
      record {
        fuel = f;
        same = same_next f (rw e g.same);
        enough = let c = cost in omega (arith, g.enough);
        low = let c = cost in omega (arith, g.low);
        below = rw (ap (λ (s : Front). s.stack) m.stands) after.1;
        spare = spare_next;
        rest = rest_next;
        board = ap (λ (s : Front). length s.shown) m.stands ∙ after.0;
        long = kept ∙ g.long;
      }

  pub going_next : Going B R C top₀ hit₀ shown₀ w₀ shown' w' t' hit'
  going_next = next g.fuel refl

module _ (B : List ℤ) (R C top₀ : ℕ) (hit₀ : Bool) (shown₀ w₀ shown w : List ℕ) (top : ℕ) (hit : Bool) (g : Going B R C top₀ hit₀ shown₀ w₀ shown w top hit) where
  going_room : Fitting B shown₀ w₀ R C → work_room (R * C) ≤ length w
  going_room f = rw g.long f.room

  -- where the stack is empty, all is done
  pub going_done : top ≡ 0 → Worked B R C top₀ shown₀ w₀ hit₀ shown w hit
  going_done e =
      record {
        outcome = sym g.same ∙ rw e (quick_empty B R C g.fuel w shown hit);
        clear = λ i lt. g.spare i (omega arith) lt;
        rest = g.rest;
      }

  -- what a turn asks
  pub going_asks : Fitting B shown₀ w₀ R C → 0 < top → Seated B R C shown w top × ((0 < top) × (get_or w (top - 1) 0 < R * C))
  going_asks f h =
      let r = going_room f in
      let z = f.mined.sized.cells in
      let l = f.mined.long in (
        record {
          sized = f.mined.sized;
          board = g.board;
          roomy = record { valued = f.mined.valued; same = l ∙ sym g.board; small = omega (arith, g.board); room = omega (arith, g.low) };
        },
        (h, (top_below (R * C) w top (top - 1) (omega arith) g.below).0),
      )

  -- what a turn gives: the invariant again, and a lower measure
  pub going_turn : (shown' w' : List ℕ) (t' : ℕ) (hit' : Bool) → Fitting B shown₀ w₀ R C → 0 < top
      → Moved (touched_around B R C (get_or w (top - 1) 0) 8 (front (stack_of (set w (top - 1) 0) (top - 1)) shown hit)) (set w (top - 1) 0) (top - 1) shown' w' t' hit' → length w' ≡ length w
      → Going B R C top₀ hit₀ shown₀ w₀ shown' w' t' hit' × (t' + count_shown (shows 10) shown' < top + count_shown (shows 10) shown)
  going_turn shown' w' t' hit' f h m kept =
      let e : top ≡ suc (top - 1) = omega arith in
      let room = going_room f in
      let v = f.mined.valued in
      let cs = cost B R C top₀ hit₀ shown₀ w₀ shown w top (top - 1) hit shown' w' t' hit' e room v g m kept in
      (going_next B R C top₀ hit₀ shown₀ w₀ shown w top (top - 1) hit shown' w' t' hit' e room v g m kept, omega arith)
