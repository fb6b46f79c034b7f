-- One equation for each way through the marking of a mine and the taking back of a flag.
use mathlib.Core.Path.{◌≡◌, ap, sym, ◌∙◌}
use mathlib.Core.Bool.{Bool, not}
use mathlib.Core.List.{List}
use Prim.Native.Nat.{ℕ}
use native.Mathlib.Omega.{arith}
use borrow.Author.Tests.{eq-eqb, ne_eqb}
use lib.ListN.{get_or, set}
use lib.IntN.{ℤ}
use mir.Val.{bool_byte}
use Rattle.rules.specs.Words.{bit}
use Rattle.rules.specs.Board.{face_at}
use Rattle.rules.specs.Lent.{bit_at, with_bit}
use Rattle.rules.specs.Clicks.{Desk, done, showing, bits_with, adds_rce, unflagged, take_back}
use Rattle.cells.proofs.Words.{byte_bit}
use Rattle.marking.specs.Mark.{Marked}

module _ (B : List ℤ) (bits : List ℕ) (i f : ℕ) (face : f ≡ face_at B i) where
  pub marked_safe : (f ≡ 15 → ⊥) → Marked B bits i 0 bits
  unfolding adds_rce bits_with
  marked_safe n = let e = ne_eqb (face_at B i) 15 (λ h. n (face ∙ h)) in record { adds = simp e; one = omega arith; after = simp e }

  module _ (mine : f ≡ 15) (had : Bool) (test : had ≡ bit_at bits i) (bits' : List ℕ) (stored : bits' ≡ with_bit bits i) where
    pub marked_mine : {n : ℕ} → n ≡ bool_byte (not had) → Marked B bits i n bits'
    unfolding adds_rce bits_with
    marked_mine h =
        let e = eq-eqb (face_at B i) 15 (sym face ∙ mine) in
        let b = byte_bit (not had) h in
        record { adds = b.0 ∙ ap (λ (x : Bool). bit (not x)) test ∙ simp e; one = b.1; after = simp e stored }

module _ (i : ℕ) (d : Desk) where
  pub back_flag : get_or d.shown i 0 ≡ 11 → take_back i d ≡ done 1 (unflagged i d)
  unfolding take_back
  back_flag e = simp (eq-eqb _ _ e)

  pub back_question : get_or d.shown i 0 ≡ 17 → take_back i d ≡ done 1 (showing d (set d.shown i 10))
  unfolding take_back
  back_question e = simp e

  pub back_open : (get_or d.shown i 0 ≡ 11 → ⊥) → (get_or d.shown i 0 ≡ 17 → ⊥) → take_back i d ≡ done 0 d
  unfolding take_back
  back_open a b = simp (ne_eqb _ _ a, ne_eqb _ _ b)
