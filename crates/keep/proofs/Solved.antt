-- A lawful Win has nothing left to solve: all that is not open is mines.
use mathlib.Core.Path.{◌≡◌, refl, subst}
use mathlib.Core.Bool.{Bool, true, false, ◌||◌}
use mathlib.Core.List.{List}
use Prim.Native.Nat.{ℕ, ◌*◌, ◌<◌}
use native.Mathlib.Omega.{arith}
use borrow.Author.Tests.{eqb-true, leb-true}
use lib.Dec.{eqb}
use lib.ListN.{length, get_or}
use lib.IntN.{ℤ}
use Rattle.rules.specs.declared.GameState.{GameState}
use Rattle.rules.specs.declared.GameState.TheVariants.{Win}
use Rattle.rules.specs.Board.{face_at}
use Rattle.rules.specs.Opening.{is_open}
use Rattle.rules.specs.Judging.{left_to_solve}
use Rattle.rules.specs.Clicks.{Desk}
use Rattle.rules.specs.Lawful.{done_at, is_won}
use Rattle.rules.specs.Calls.{lent_refusal, left_to_solve_of}
use Rattle.cells.proofs.Words.{every_at}
use Rattle.judging.proofs.Solving.{left_done}
use Rattle.keep.specs.Kept.{Phase, LawfulAt}
use Rattle.keep.proofs.Lawful.{lent_lawful}

module _ (B : List ℤ) (d : Desk) (l : LawfulAt B d) (won : d.position.game ≡ Win) where
  all_done : is_won B d.shown ≡ true
  all_done = subst (λ (g : GameState). Phase g d.position.mouse d.position.preflags B d.shown) won l.kept.phase

  -- what is not open is a mine
  mines_left : (i : ℕ) → i < d.position.settings.rows * d.position.settings.columns → 8 < get_or d.shown i 0 → face_at B i ≡ 15
  unfolding is_won
  mines_left i lt h = go (eqb (face_at B i) 15) refl (every_at (done_at B d.shown) (length d.shown) all_done i on)
    where
      on : i < length d.shown
      on = rw l.kept.sound.ground.board lt

      go : (b : Bool) → eqb (face_at B i) 15 ≡ b → (b || is_open (get_or d.shown i 0)) ≡ true → face_at B i ≡ 15
      go true m t = eqb-true _ _ m
      go false m t = let o = leb-true (get_or d.shown i 0) 8 t in absurd (omega arith)

  pub left_win : left_to_solve B d.position.settings.rows d.position.settings.columns d.shown ≡ 0
  left_win = left_done B d.position.settings.rows d.position.settings.columns d.shown l.kept.sound.ground.board mines_left

-- whatever the call is given: in Win its value is 0, as a refusal's is
pub left_win_value : (B : List ℤ) (d : Desk) (work : List ℕ) → d.position.game ≡ Win → (left_to_solve_of B d work).answer.value ≡ 0
unfolding left_to_solve_of
left_win_value B d work won = go (eqb (lent_refusal B d work) 0) refl
  where
    go : (b : Bool) → eqb (lent_refusal B d work) 0 ≡ b → (left_to_solve_of B d work).answer.value ≡ 0
    go true e = simp e (left_win B d (lent_lawful B d work (eqb-true _ _ e)) won)
    go false e = simp e
