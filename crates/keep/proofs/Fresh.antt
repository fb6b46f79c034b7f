-- The fresh desk is lawful.
use mathlib.Core.Path.{◌≡◌, ◌∙◌, sym, refl, subst, subst⁻¹}
use mathlib.Core.Bool.{Bool, true, false, false≢true}
use mathlib.Core.List.{List}
use Prim.Native.Nat.{ℕ, ◌<◌}
use native.Mathlib.Omega.{arith}
use lib.IntN.{ℤ}
use lib.ListN.{length-replicate, get_or-replicate}
use Rattle.rules.specs.declared.Settings.{Settings}
use Rattle.rules.specs.Board.{face_at, numbers_ok}
use Rattle.rules.specs.Lent.{bit_bytes}
use Rattle.rules.specs.Opening.{is_open}
use Rattle.rules.specs.Lawful.{shows, is_flag, cell_lawful}
use Rattle.rules.specs.Calls.{cells_in, fresh_desk}
use Rattle.cells.specs.Ground.{Mined}
use Rattle.bits.proofs.Bits.{bit_none}
use Rattle.keep.specs.Kept.{Kept, LawfulAt}
use Rattle.keep.proofs.Counting.{shown_replicate}
use Rattle.keep.proofs.Unopened.{unopened_fresh}

-- a cell may always show 10
pub closed_lawful : (q loss : Bool) (f : ℕ) → cell_lawful q loss f 10 ≡ true
unfolding cell_lawful
closed_lawful q loss f = refl

-- on a board of its size whose numbers are right
pub fresh_lawful : (B : List ℤ) (s : Settings) → Mined B s.rows s.columns → numbers_ok B s.rows s.columns ≡ true → LawfulAt B (fresh_desk s B)
fresh_lawful B s mined numbers = record { kept = kept; few = omega arith }
  where
    n : ℕ
    n = cells_in s

    kept : Kept 0 B (fresh_desk s B)
    kept = record {
      sound = record {
        ground = record {
          mined = mined;
          numbers = numbers;
          board = length-replicate n 10;
          room = length-replicate (bit_bytes n) 0;
        };
        bounded = omega arith;
        double = omega arith;
        solved = omega arith;
        flag = sym (shown_replicate is_flag n 10 refl);
        unopened = unopened_fresh B n mined.long;
        wrong = λ h. let z = shown_replicate (shows 14) n 10 refl in absurd (omega arith);
        cells = λ i h.
            subst⁻¹ (λ (x : ℕ). cell_lawful s.question false (face_at B i) x ≡ true)
            (get_or-replicate n i 10 0 (subst (λ (m : ℕ). i < m) (length-replicate n 10) h))
            (closed_lawful s.question false (face_at B i));
        mines = λ m h. absurd (false≢true (sym (bit_none (bit_bytes n) m) ∙ h));
      };
      preflags = omega arith;
      held = λ h. absurd (false≢true h);
      phase = record {
        unflagged = shown_replicate (shows 11) n 10 refl;
        unpreflagged = refl;
        unheld = refl;
        shut = shown_replicate is_open n 10 refl;
      };
    }
