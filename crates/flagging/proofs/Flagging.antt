-- What a flag does to the desk, and what it leaves alone.
use mathlib.Core.Path.{◌≡◌, refl, ap, ◌∙◌}
use mathlib.Core.Bool.{Bool, true, false}
use mathlib.Core.List.{List, [], ◌∷◌}
use Prim.Native.Nat.{ℕ, ◌+◌, ◌≤◌}
use native.Mathlib.Omega.{arith}
use lib.ListN.{length, set, length-set}
use lib.IntN.{ℤ}
use Rattle.rules.specs.declared.Position.{Position}
use Rattle.rules.specs.Words.{pick}
use Rattle.rules.specs.States.{with_flag}
use Rattle.rules.specs.Board.{mine_at}
use Rattle.rules.specs.Lent.{with_bit}
use Rattle.rules.specs.Opening.{closed_at}
use Rattle.rules.specs.Clicks.{Desk, desk, bits_with}
use Rattle.rules.specs.Passes.{flag_one, flag_all}
use Rattle.cells.specs.Promises.{closed_in}
use Rattle.bits.proofs.Bits.{bit_length}
use Rattle.opening.proofs.Cost.{closed_set}

module _ (B : List ℤ) where
  -- ---- one cell --------------------------------------------------------------------------------------------------------------------------

  pub mark_length : (cell : ℕ) (bits : List ℕ) → length (bits_with B bits cell) ≡ length bits
  unfolding bits_with
  mark_length cell bits = go (mine_at B cell)
    where
      go : (b : Bool) → length (pick b (with_bit bits cell) bits) ≡ length bits
      go true = bit_length bits cell
      go false = refl

  pub flag_yes : (cell : ℕ) (d : Desk) → closed_at d.shown cell ≡ true
      → flag_one B cell d ≡ desk (with_flag d.position (d.position.counts.flag + 1)) (set d.shown cell 11) (bits_with B d.bits cell)
  unfolding flag_one
  flag_yes cell d e = rw e

  pub flag_no : (cell : ℕ) (d : Desk) → closed_at d.shown cell ≡ false → flag_one B cell d ≡ d
  unfolding flag_one
  flag_no cell d e = rw e

  -- ---- THE LAW of a flag: flags and closed cells together stay as many, the lists as long, and no other count changes ------------------------

  pub record Even (d d' : Desk) : Type 0 where
    pub sum : d'.position.counts.flag + closed_in d'.shown ≡ d.position.counts.flag + closed_in d.shown
    pub few : closed_in d'.shown ≤ closed_in d.shown
    pub board : length d'.shown ≡ length d.shown
    pub bytes : length d'.bits ≡ length d.bits
    pub only : d'.position ≡ with_flag d.position d'.position.counts.flag

  even_none : (d : Desk) → Even d d
  even_none d = record { sum = refl; few = omega arith; board = refl; bytes = refl; only = refl }

  even_one : (cell : ℕ) (d : Desk) → Even d (flag_one B cell d)
  even_one cell d = go (closed_at d.shown cell) refl
    where
      go : (b : Bool) → closed_at d.shown cell ≡ b → Even d (flag_one B cell d)
      go true e =
          let l = closed_set d.shown cell 11 e (λ h. omega arith) in
          rw (flag_yes cell d e)
          (record {
            sum = omega arith;
            few = omega arith;
            board = length-set d.shown cell 11;
            bytes = mark_length cell d.bits;
            only = refl;
          })
      go false e = rw (flag_no cell d e) (even_none d)

  even_on : (d d' d'' : Desk) → Even d d' → Even d' d'' → Even d d''
  even_on d d' d'' a b =
      record {
        sum = b.sum ∙ a.sum;
        few = omega (arith, a.few, b.few);
        board = b.board ∙ a.board;
        bytes = b.bytes ∙ a.bytes;
        only = b.only ∙ ap (λ (p : Position). with_flag p d''.position.counts.flag) a.only;
      }

  pub even_all : (st : List ℕ) (d : Desk) → Even d (flag_all B st d)
  unfolding flag_all
  even_all [] d = even_none d
  even_all (x ∷ st) d = even_on d (flag_all B st d) (flag_one B x (flag_all B st d)) (even_all st d) (even_one x (flag_all B st d))
