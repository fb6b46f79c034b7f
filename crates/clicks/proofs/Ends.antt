-- How an opening ends: the way through the code, and what it leaves of a desk.
use mathlib.Core.Path.{◌≡◌, refl, ap, ap₂, sym, ◌∙◌}
use mathlib.Core.Bool.{Bool, true, false}
use mathlib.Core.List.{List, [], ◌∷◌}
use mathlib.Core.Logic.{◌⊎◌, inl, inr}
use Prim.Native.Nat.{ℕ, suc, ◌+◌, ◌-◌, ◌*◌}
use native.Mathlib.Omega.{arith}
use borrow.Author.Tests.{eq-eqb, ne_eqb}
use lib.Dec.{eqb}
use lib.ListN.{get_or, set}
use lib.IntN.{ℤ}
use Rattle.rules.specs.declared.Position.{Position}
use Rattle.rules.specs.declared.Played.{Played}
use Rattle.rules.specs.declared.GameState.TheVariants.{Win, Loss}
use Rattle.rules.specs.States.{with_game, with_unopened}
use Rattle.rules.specs.Words.{pick}
use Rattle.rules.specs.Board.{face_at}
use Rattle.rules.specs.Opening.{Opened, refreshed, run, turns, shown_after, stack_after, hit_after, opened_in}
use Rattle.rules.specs.Clicks.{Desk, Play, desk, done, on, uncovered, ended}
use Rattle.cells.specs.Promises.{Ticked, Leaves, play, Acts}
use Rattle.opening.specs.declared.Outcome.{Outcome}
use Rattle.opening.specs.Parts.{opened}
use Rattle.clicks.specs.Parts.{opens_with}

-- what an ending leaves: the opened board, and all but the game state and the safe cells still closed as it was
pub record Ending (n : ℕ) (d : Desk) (shown : List ℕ) (x : Play) : Type 0 where
  pub answer : (x.answer ≡ 4) ⊎ (x.answer ≡ n)
  pub board : x.desk.shown ≡ shown
  pub bits : x.desk.bits ≡ d.bits
  pub settings : x.desk.position.settings ≡ d.position.settings
  pub flag : x.desk.position.counts.flag ≡ d.position.counts.flag
  pub dce : x.desk.position.counts.dce ≡ d.position.counts.dce
  pub secrets : x.desk.position.secrets ≡ d.position.secrets

module _ (n : ℕ) (d : Desk) (o : Opened) where
  pub ended_hit : o.hit ≡ true → ended n d o ≡ done 4 (on (uncovered d o.shown) (with_game (uncovered d o.shown).position Loss))
  unfolding ended
  ended_hit e = simp e

  module _ (safe : o.hit ≡ false) where
    pub ended_won : (uncovered d o.shown).position.counts.unopened ≡ 0
        → ended n d o ≡ done n (on (uncovered d o.shown) (with_game (uncovered d o.shown).position Win))
    unfolding ended
    ended_won w = rw safe (rw (eq-eqb _ _ w) refl)

    pub ended_open : ((uncovered d o.shown).position.counts.unopened ≡ 0 → ⊥) → ended n d o ≡ done n (uncovered d o.shown)
    unfolding ended
    ended_open w = rw safe (rw (ne_eqb _ _ w) refl)

  pub ending : Ending n d o.shown (ended n d o)
  unfolding ended
  ending = go o.hit (eqb (uncovered d o.shown).position.counts.unopened 0)
    where
      go : (a b : Bool) → Ending n d o.shown (pick a (done 4 (on (uncovered d o.shown) (with_game (uncovered d o.shown).position Loss)))
          (pick b (done n (on (uncovered d o.shown) (with_game (uncovered d o.shown).position Win))) (done n (uncovered d o.shown))))
      go true b = record { answer = inl refl; board = refl; bits = refl; settings = refl; flag = refl; dce = refl; secrets = refl }
      go false true = record { answer = inr refl; board = refl; bits = refl; settings = refl; flag = refl; dce = refl; secrets = refl }
      go false false = record { answer = inr refl; board = refl; bits = refl; settings = refl; flag = refl; dce = refl; secrets = refl }

-- what was counted is what was opened
ticked_opened : {k : ℕ} {past shown : List ℕ} → Ticked 0 past k shown → k ≡ opened_in past shown
ticked_opened t = omega (arith, t.counted)

-- the number has fallen, and a mine is hit or not
module _ (n : ℕ) (p : Position) {k left : ℕ} (e : left ≡ p.counts.unopened - k) (q : Position) (f : q ≡ with_unopened p left) (past shown bits : List ℕ) (t : Ticked 0 past k shown) where
  fallen : desk q shown bits ≡ uncovered (desk p past bits) shown
  fallen = rw (f, e, ticked_opened t) refl

  zero_left : left ≡ (uncovered (desk p past bits) shown).position.counts.unopened
  zero_left = e ∙ ap (λ (m : ℕ). p.counts.unopened - m) (ticked_opened t)

  pub ends_hit : (z : Position) → z ≡ with_game q Loss → {hit : Bool} → hit ≡ true → play (record { answer = 4; position = z }) shown bits ≡ ended n (desk p past bits) (opened shown hit)
  ends_hit z g h = ap (λ (x : Position). done 4 (desk x shown bits)) g ∙ ap (λ (x : Desk). done 4 (on x (with_game x.position Loss))) fallen ∙ sym (ended_hit n _ _ h)

  pub ends_won : (z : Position) → z ≡ with_game q Win → {hit : Bool} → hit ≡ false → left ≡ 0 → play (record { answer = n; position = z }) shown bits ≡ ended n (desk p past bits) (opened shown hit)
  ends_won z g h w = ap (λ (x : Position). done n (desk x shown bits)) g ∙ ap (λ (x : Desk). done n (on x (with_game x.position Win))) fallen ∙ sym (ended_won n _ _ h (sym zero_left ∙ w))

  pub ends_open : {hit : Bool} → hit ≡ false → (left ≡ 0 → ⊥) → play (record { answer = n; position = q }) shown bits ≡ ended n (desk p past bits) (opened shown hit)
  ends_open h w = ap (done n) fallen ∙ sym (ended_open n _ _ h (λ (x : (uncovered (desk p past bits) shown).position.counts.unopened ≡ 0). w (zero_left ∙ x)))

-- the cells opened, and the ending
pub opened_ends : (B : List ℤ) (n : ℕ) (given : List ℕ) (p : Position) (shown work : List ℕ) (r : Played) (shown' work' : List ℕ) (o : Outcome)
    → Leaves (opened shown' o.hit) (refreshed B p.settings.rows p.settings.columns given shown) work work' × Ticked 0 shown o.opened shown'
    → ((past shown bits : List ℕ) → Ticked 0 past o.opened shown → play r shown bits ≡ ended n (desk p past bits) (opened shown o.hit))
    → Acts (opens_with B n given) p shown work r shown' work'
opened_ends B n given p shown work r shown' work' o h e =
    λ bits. record { outcome = e shown shown' bits h.1 ∙ ap (ended n (desk p shown bits)) h.0.outcome; same = h.0.same }

-- a number that is opened is shown, and opens nothing more
module _ (B : List ℤ) (R C i : ℕ) (shown : List ℕ) (ten : get_or shown i 0 ≡ 10) (nonzero : face_at B i ≡ 0 → ⊥) (mine : face_at B i ≡ 15 → ⊥) where
  shows_number : shown_after B shown i ≡ set shown i (face_at B i)
  unfolding shown_after
  shows_number = simp (eq-eqb _ _ ten)

  pushes_none : stack_after B R C shown i [] ≡ []
  unfolding stack_after
  pushes_none = simp (eq-eqb _ _ ten, ne_eqb _ _ nonzero)

  hits_none : hit_after B shown i false ≡ false
  unfolding hit_after
  hits_none = simp (eq-eqb _ _ ten, ne_eqb _ _ mine)

  number_runs : (f : ℕ) → run B R C (suc (suc f)) (i ∷ []) shown false ≡ opened (set shown i (face_at B i)) false
  unfolding run
  number_runs f =
      ap₂ (λ (st s : List ℕ). run B R C (suc f) st s (hit_after B shown i false)) pushes_none shows_number
      ∙ ap (λ (h : Bool). run B R C (suc f) [] (set shown i (face_at B i)) h) hits_none

  pub opened_number : opened (set shown i (face_at B i)) false ≡ refreshed B R C (i ∷ []) shown
  unfolding refreshed
  opened_number = let t : turns (R * C) ≡ suc (suc (8 * (R * C) + 6)) = omega arith in rw (t, number_runs (8 * (R * C) + 6)) refl
