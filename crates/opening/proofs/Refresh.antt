-- The whole of opening, from its parts: the given cells are touched, the stack is worked off, wrong flags are shown, and the work is as it was.
use mathlib.Core.Path.{◌≡◌, refl, ap, sym, ◌∙◌}
use mathlib.Core.Bool.{Bool, true, false, false≢true, true≢false}
use mathlib.Core.List.{List, []}
use Prim.Native.Nat.{ℕ, zero, suc, ◌+◌, ◌*◌, ◌≤◌}
use native.Mathlib.Omega.{arith}
use native.Mathlib.Numerals.{add-one}
use borrow.Author.Tests.{ltb-true, ltb-false}
use lib.Dec.{ltb}
use lib.ListN.{length, get_or, set}
use lib.Seq.{ext_get_or, get_or-set_other}
use lib.IntN.{ℤ}
use Rattle.rules.specs.Words.{stack_of}
use Rattle.rules.specs.Board.{face_at}
use Rattle.rules.specs.Lent.{work_room}
use Rattle.rules.specs.Opening.{run, turns, wrong_flag, crossed, crossed_if_hit, refreshed, count_shown}
use Rattle.rules.specs.Lawful.{shows}
use Rattle.cells.specs.Ground.{Below, Fitting}
use Rattle.cells.specs.Promises.{Laid, Leaves}
use Rattle.cells.proofs.Words.{stack_length}
use Rattle.opening.specs.Quick.{Front, front, touched_all, quick_from}
use Rattle.opening.specs.Parts.{Spare, Roomy, Moved, Worked, opened}
use Rattle.opening.proofs.Cost.{closed_most}
use Rattle.opening.proofs.Quick.{quick_same}
use Rattle.opening.proofs.Touching.{all_height, all_below}

-- ---- wrong flags --------------------------------------------------------------------------------------------------------------------------

-- cells that are not yet looked at are as they were
pub crossed_past : (B : List ℤ) (n : ℕ) (shown : List ℕ) (i : ℕ) → n ≤ i → get_or (crossed B n shown) i 0 ≡ get_or shown i 0
unfolding crossed
crossed_past B zero shown i h = refl
crossed_past B (suc n) shown i h =
    get_or-set_other (crossed B n shown) n i (wrong_flag (face_at B n) (get_or shown n 0)) 0 (λ (e : i ≡ n). omega arith) ∙ crossed_past B n shown i (omega arith)

pub crossed_none : (B : List ℤ) (shown : List ℕ) → shown ≡ crossed B 0 shown
unfolding crossed
crossed_none B shown = refl

pub crossed_more : (B : List ℤ) (shown₀ shown shown' : List ℕ) (i : ℕ) → shown ≡ crossed B i shown₀ → shown' ≡ set shown i (wrong_flag (face_at B i) (get_or shown i 0))
    → shown' ≡ crossed B (i + 1) shown₀
unfolding crossed
crossed_more B shown₀ shown shown' i s e =
    e ∙ rw (add-one i, s) (ap (λ (x : ℕ). set (crossed B i shown₀) i (wrong_flag (face_at B i) x)) (crossed_past B i shown₀ i (omega arith)))

-- ---- the whole ----------------------------------------------------------------------------------------------------------------------------

-- at the start the stack is empty and has room
pub roomy_start : (B : List ℤ) (shown w : List ℕ) (R C : ℕ) → Laid B shown w R C → Roomy B shown w 0
roomy_start B shown w R C l =
    let f = l.fits in
    let c = closed_most shown in
    let z = f.mined.sized.cells in
    record { valued = f.mined.valued; same = f.mined.long ∙ sym f.board; small = omega (arith, f.board); room = omega (arith, f.board, f.room) }

module _ (B : List ℤ) (R C : ℕ) (given : List ℕ) (n : ℕ) (shown w shown₁ w₁ : List ℕ) (t₁ : ℕ) (hit₁ : Bool)
    (l : Laid B shown w R C) (few : n ≤ 8)
    (m : Moved (touched_all B (stack_of given n) (front [] shown false)) w 0 shown₁ w₁ t₁ hit₁) (long : length w₁ ≡ length w) where
  low : t₁ + count_shown (shows 10) shown₁ ≤ R * C
  low = let h = all_height B (stack_of given n) shown w shown₁ w₁ t₁ hit₁ l.fits.mined.valued m in let c = closed_most shown in omega (arith, l.fits.board)

  after : (length (touched_all B (stack_of given n) (front [] shown false)).shown ≡ R * C) × Below (R * C) (touched_all B (stack_of given n) (front [] shown false)).stack
  after = all_below B (stack_of given n) (R * C) (front [] shown false) l.fits.board tt

  pub work_asks : Fitting B shown₁ w₁ R C × ((t₁ + count_shown (shows 10) shown₁ ≤ R * C) × (Below (R * C) (stack_of w₁ t₁) × Spare t₁ (work_room (R * C)) w₁))
  work_asks = (
    record { mined = l.fits.mined; board = ap (λ (s : Front). length s.shown) m.stands ∙ after.0; room = rw long l.fits.room },
    (low, (rw (ap (λ (s : Front). s.stack) m.stands) after.1, λ i le lt. m.frame i le ∙ l.zeros i lt)),
  )

  module _ (shown' w₂ : List ℕ) (hit : Bool) (d : Worked B R C t₁ shown₁ w₁ hit₁ shown' w₂ hit) (k : length w₂ ≡ length w₁) where
    same : run B R C (turns (R * C)) (stack_of given n) shown false ≡ record { shown = shown'; hit = hit }
    same =
        sym (quick_same B R C l.fits.mined.valued (stack_of given n) shown l.fits.board (let h = stack_length given n in omega arith))
        ∙ sym (ap (quick_from B R C (R * C)) m.stands)
        ∙ d.outcome

    settles : crossed_if_hit B (record { shown = shown'; hit = hit }) ≡ refreshed B R C (stack_of given n) shown
    unfolding refreshed
    settles = ap (crossed_if_hit B) (sym same)

    -- the work is as it was
    work_back : w₂ ≡ w
    work_back = ext_get_or 0 w₂ w (k ∙ long) (λ i lt. go i (ltb i (work_room (R * C))) refl)
      where
        go : (i : ℕ) (b : Bool) → ltb i (work_room (R * C)) ≡ b → get_or w₂ i 0 ≡ get_or w i 0
        go i true e = let h = ltb-true _ _ e in d.clear i h ∙ sym (l.zeros i h)
        go i false e = let h = ltb-false _ _ e in let h' = low in d.rest i h ∙ m.frame i (omega arith)

    pub refreshed_hit : (shown'' : List ℕ) → hit ≡ true → shown'' ≡ crossed B (length shown') shown'
        → Leaves (opened shown'' hit) (refreshed B R C (stack_of given n) shown) w w₂
    refreshed_hit shown'' e s = record { outcome = rw s (go hit e) ∙ settles; same = work_back }
      where
        go : (b : Bool) → b ≡ true → opened (crossed B (length shown') shown') b ≡ crossed_if_hit B (opened shown' b)
        go true e = refl
        go false e = absurd (false≢true e)

    pub refreshed_safe : hit ≡ false → Leaves (opened shown' hit) (refreshed B R C (stack_of given n) shown) w w₂
    refreshed_safe e = record { outcome = go hit e ∙ settles; same = work_back }
      where
        go : (b : Bool) → b ≡ false → opened shown' b ≡ crossed_if_hit B (opened shown' b)
        go true e = absurd (true≢false e)
        go false e = refl
