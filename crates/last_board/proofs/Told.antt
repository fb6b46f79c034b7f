-- What a program prints of a book that it plays to its end: for an accepted book a text of its own, for a refused one the printout.
use mathlib.Core.Path.{◌≡◌, ◌∙◌, ap, sym}
use mathlib.Core.List.{List}
use Prim.Native.Nat.{ℕ, ◌<◌}
use native.Mathlib.Omega.{arith}
use native.Mathlib.Decide.{dec_lt}
use borrow.Author.Tests.{eq-eqb, ne_eqb}
use lib.Dec.{eqb}
use lib.ListN.{length, take}
use lib.Seq.{take_all}
use Rattle.rules.specs.declared.Book.{Book}
use Rattle.rules.specs.Words.{pick}
use Rattle.rules.specs.Book.{book_of}
use Rattle.rules.specs.Printout.{printout_of}
use Rattle.book.specs.Written.{longest}
use Rattle.book.proofs.Accepting.{accepted_longest}
use Rattle.book.proofs.Prefix.{prefix_read, prefix_printout}
use Rattle.last_board.specs.Last.{Ended}

-- `own` is the text of an accepted book
abbrev pub told_by : (List ℕ → Book → List ℕ) → List ℕ → Book → List ℕ
told_by own s b = pick (eqb b.number 0) (own s b) (printout_of s)

module _ (own : List ℕ → Book → List ℕ) where
  refused_by_lem : (s : List ℕ) (b : Book) → (b.number ≡ 0 → ⊥) → told_by own s b ≡ printout_of s
  refused_by_lem s b h = simp (ne_eqb b.number 0 h)

  module _ (s : List ℕ) (b : Book) (e : b ≡ book_of s) where
    pub told_accepted : b.number ≡ 0 → own s b ≡ told_by own s (book_of s)
    told_accepted z = sym (simp (eq-eqb b.number 0 z)) ∙ ap (told_by own s) e

    pub told_refused : {shown text : List ℕ} {r : ℕ} → Ended s shown text r → (b.number ≡ 0 → ⊥) → take r text ≡ told_by own s (book_of s)
    told_refused h n = h.whole ∙ sym (refused_by_lem s b n) ∙ ap (told_by own s) e

  -- the first n bytes, where n is more than the longest book has, are told of as all are
  pub prefix_told : (s : List ℕ) (n : ℕ) → longest < n → told_by own (take n s) (book_of (take n s)) ≡ told_by own s (book_of s)
  prefix_told s n long = either (dec_lt n (length s))
    where
      either : Dec (n < length s) → told_by own (take n s) (book_of (take n s)) ≡ told_by own s (book_of s)
      either (yes q) =
          let refused : (book_of s).number ≡ 0 → ⊥ = λ z. omega (arith, accepted_longest s z) in
          ap (told_by own (take n s)) (prefix_read s n long) ∙ refused_by_lem (take n s) (book_of s) refused ∙ prefix_printout s n long
          ∙ sym (refused_by_lem s (book_of s) refused)
      either (no q) = ap (λ (t : List ℕ). told_by own t (book_of t)) (take_all n s (omega arith))
