-- 25 at 3 in its place: a book of the class is a book, but for one whose settings are in order up to another mode. Assumes nothing.
use mathlib.Core.Path.{◌≡◌, refl, sym, ap, ◌∙◌}
use mathlib.Core.Bool.{Bool, true, false, not, ◌&&◌, ◌||◌}
use mathlib.Core.List.{List}
use Prim.Native.Nat.{ℕ, ◌+◌, ◌<◌, ◌≤◌}
use native.Mathlib.Omega.{arith}
use borrow.Author.Tests.{le-leb, lt-leb}
use lib.Dec.{eqb, leb}
use lib.ListN.{length}
use Rattle.rules.specs.declared.Book.{Book}
use Rattle.rules.specs.Words.{pick}
use Rattle.rules.specs.Grid.{size_ok}
use Rattle.rules.specs.Mouse.{rules_ok}
use Rattle.rules.specs.Calls.{mode_ok}
use Rattle.rules.specs.Book.{byte_at, refused_book, or_else, mines_section, rules_at, settings_at, settings_section, mine_count_at, sections_of, events_end, book_ends, book_of}
use Rattle.rules.specs.Noflag.{class_settings_section, class_sections_of, class_book_of}
use Rattle.noflag_board.specs.Parts.{mode_wrong, other_mode}
use Rattle.noflag_board.proofs.Moding.{zero_ok}

-- ---- the tests before the mode -------------------------------------------------------------------------------------------------------------

module _ (s : List ℕ) where
  pub other_empty : length s < 1 → false ≡ other_mode s
  unfolding other_mode
  other_empty h = simp (lt-leb _ _ h)

  module _ (some : 1 ≤ length s) where
    pub other_count : (eqb (byte_at s 0) 4 || eqb (byte_at s 0) 5) ≡ false → false ≡ other_mode s
    unfolding other_mode
    other_count wrong = simp (le-leb _ _ some, wrong)

    -- the reader has found the count w
    module _ (w : ℕ) (right : (eqb (byte_at s 0) 4 || eqb (byte_at s 0) 5) ≡ true) (read : w ≡ byte_at s 0) where
      pub other_short : length s < 1 + w → false ≡ other_mode s
      unfolding other_mode
      other_short short =
          let short' : length s < mine_count_at s = omega arith in
          simp (le-leb _ _ some, right, lt-leb _ _ short')

      pub other_there : 1 + w ≤ length s → (b : Bool) → b ≡ mode_wrong s → b ≡ other_mode s
      unfolding other_mode
      other_there there b e =
          let there' : mine_count_at s ≤ length s = omega arith in
          simp (le-leb _ _ some, right, le-leb _ _ there') e

-- ---- the reader ----------------------------------------------------------------------------------------------------------------------------

-- the tests of the settings in their order, where m says that the mode is 0 and ok that it is one of the board's
sections_by_lem : (n : ℕ) (a b c d e m ok u : Bool) (rest : Book) → (m ≡ true → ok ≡ true)
    → or_else 40 n a (or_else 41 0 b (or_else 40 n c (or_else 41 4 d (or_else 20 1 e (or_else 25 3 m (or_else 45 5 u rest))))))
    ≡ pick (a && (b && (c && (d && (e && not m))))) (refused_book 25 3)
    (or_else 40 n a (or_else 41 0 b (or_else 40 n c (or_else 41 4 d (or_else 20 1 e (or_else 25 3 ok (or_else 45 5 u rest)))))))
sections_by_lem n false b c d e m ok u rest f = refl
sections_by_lem n true false c d e m ok u rest f = refl
sections_by_lem n true true false d e m ok u rest f = refl
sections_by_lem n true true true false e m ok u rest f = refl
sections_by_lem n true true true true false m ok u rest f = refl
sections_by_lem n true true true true true true ok u rest f = sym (ap (λ (t : Bool). or_else 25 3 t (or_else 45 5 u rest)) (f refl))
sections_by_lem n true true true true true false ok u rest f = refl

sections_other : (s : List ℕ) → class_sections_of s ≡ pick (other_mode s) (refused_book 25 3) (sections_of s)
unfolding class_sections_of class_settings_section sections_of settings_section other_mode
sections_other s =
    sections_by_lem (length s) (leb 1 (length s)) (eqb (byte_at s 0) 4 || eqb (byte_at s 0) 5) (leb (mine_count_at s) (length s)) (leb (byte_at s 4) 1)
    (size_ok (byte_at s 1) (byte_at s 2)) (eqb (byte_at s 3) 0) (mode_ok (byte_at s 3)) (rules_ok (rules_at s))
    (mines_section s (mine_count_at s) (settings_at s)) (zero_ok (byte_at s 3))

-- THE BOOK of the class
pub class_book : (s : List ℕ) → class_book_of s ≡ pick (other_mode s) (refused_book 25 3) (book_of s)
unfolding class_book_of book_of book_ends
class_book s = ap (λ (b : Book). book_ends s (events_end b) b) (sections_other s) ∙ go (other_mode s)
  where
    go : (t : Bool)
        → book_ends s (events_end (pick t (refused_book 25 3) (sections_of s))) (pick t (refused_book 25 3) (sections_of s))
        ≡ pick t (refused_book 25 3) (book_ends s (events_end (sections_of s)) (sections_of s))
    go true = refl
    go false = refl

module _ (s : List ℕ) (t : Bool) (e : t ≡ other_mode s) where
  pub book_refused : (b : Book) → t ≡ true → b ≡ refused_book 25 3 → b ≡ class_book_of s
  book_refused b h r = r ∙ sym (class_book s ∙ ap (λ (u : Bool). pick u (refused_book 25 3) (book_of s)) (sym e ∙ h))

  pub book_read : (b : Book) → t ≡ false → b ≡ book_of s → b ≡ class_book_of s
  book_read b h r = r ∙ sym (class_book s ∙ ap (λ (u : Bool). pick u (refused_book 25 3) (book_of s)) (sym e ∙ h))

-- an accepted book of the class is an accepted book
pub accepted_book : (s : List ℕ) → (class_book_of s).number ≡ 0 → class_book_of s ≡ book_of s
accepted_book s z = class_book s ∙ go (other_mode s) (sym (ap (λ (b : Book). b.number) (class_book s)) ∙ z)
  where
    go : (t : Bool) → (pick t (refused_book 25 3) (book_of s)).number ≡ 0 → pick t (refused_book 25 3) (book_of s) ≡ book_of s
    go true q = absurd (omega arith)
    go false q = refl
