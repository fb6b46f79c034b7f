-- A byte string whose settings count is not 5 is read as document 01 has it: so an old book reads as rules 1, and what was refused is refused as it was.
use mathlib.Core.Path.{◌≡◌, ap, sym, ◌∙◌}
use mathlib.Core.Bool.{Bool, ◌||◌}
use mathlib.Core.List.{List}
use Prim.Native.Nat.{ℕ, ◌+◌}
use native.Mathlib.Decide.{ℕ_discrete}
use borrow.Author.Tests.{eq-eqb, ne_eqb}
use lib.Dec.{leb, eqb}
use Rattle.rules.specs.declared.Book.{Book}
use Rattle.rules.specs.Words.{pick}
use Rattle.rules.specs.Grid.{size_ok}
use Rattle.rules.specs.Mouse.{rules_ok}
use Rattle.rules.specs.Calls.{mode_ok}
use Rattle.rules.specs.Book.{byte_at, or_else, reaches, mines_section, settings_section, sections_of, events_end, book_ends, book_of}
use Rattle.book.specs.Before.{settings_before, section_before, sections_before, book_before}
use Rattle.book.proofs.Accepting.{accepted_laid, laid_read}

-- the sections, where the count is b
abbrev sections_by : List ℕ → ℕ → Book
sections_by s b =
    let rules = pick (eqb b 5) (byte_at s 5) 1 in
    reaches s 1
    (or_else 41 0 (eqb b 4 || eqb b 5)
    (reaches s (1 + b)
    (or_else 41 4 (leb (byte_at s 4) 1)
    (or_else 20 1 (size_ok (byte_at s 1) (byte_at s 2))
    (or_else 25 3 (mode_ok (byte_at s 3))
    (or_else 45 5 (rules_ok rules)
    (mines_section s (1 + b) (record { rows = byte_at s 1; columns = byte_at s 2; mode = byte_at s 3; question = eqb (byte_at s 4) 1; rules = rules }))))))))

sections_before_lem : (s : List ℕ) → (byte_at s 0 ≡ 5 → ⊥) → sections_of s ≡ sections_before s
unfolding sections_of settings_section sections_before section_before rules_ok
sections_before_lem s q = go (ℕ_discrete (byte_at s 0) 4)
  where
    tail : Book
    tail =
        reaches s 5
        (or_else 41 4 (leb (byte_at s 4) 1)
        (or_else 20 1 (size_ok (byte_at s 1) (byte_at s 2)) (or_else 25 3 (mode_ok (byte_at s 3)) (mines_section s 5 (settings_before s)))))

    go : Dec (byte_at s 0 ≡ 4) → sections_by s (byte_at s 0) ≡ reaches s 1 (or_else 41 0 (eqb (byte_at s 0) 4) tail)
    go (yes e) = ap (sections_by s) e ∙ ap (λ (t : Bool). reaches s 1 (or_else 41 0 t tail)) (sym (eq-eqb _ _ e))
    go (no e) = simp (ne_eqb _ _ e, ne_eqb _ _ q)

pub book_before_lem : (s : List ℕ) → (byte_at s 0 ≡ 5 → ⊥) → book_of s ≡ book_before s
unfolding book_of book_before
book_before_lem s q = ap (λ (b : Book). book_ends s (events_end b) b) (sections_before_lem s q)

-- count 4 means rules 1
pub old_rules : (s : List ℕ) → (byte_at s 0 ≡ 5 → ⊥) → (book_of s).number ≡ 0 → (book_of s).settings.rules ≡ 1
old_rules s q z = ap (λ (b : Book). b.settings.rules) (laid_read s (accepted_laid s z)) ∙ ap (λ (t : Bool). pick t (byte_at s 5) 1) (ne_eqb _ _ q)
