-- The place of a refusal is no further than the bytes' end.
use mathlib.Core.Path.{◌≡◌, refl}
use mathlib.Core.Bool.{Bool, true, false, ◌||◌}
use mathlib.Core.List.{List}
use Prim.Native.Nat.{ℕ, zero, suc, ◌+◌, ◌*◌, ◌≤◌}
use native.Mathlib.Omega.{arith}
use borrow.Author.Tests.{leb-true, leb-false}
use lib.Dec.{leb, ltb, eqb}
use lib.ListN.{length, drop}
use Rattle.rules.specs.declared.Book.{Book}
use Rattle.rules.specs.declared.Settings.{Settings}
use Rattle.rules.specs.Grid.{size_ok}
use Rattle.rules.specs.Board.{mine_ok}
use Rattle.rules.specs.Mouse.{rules_ok}
use Rattle.rules.specs.Calls.{mode_ok}
use Rattle.rules.specs.Book.{byte_at, word_at, rules_at, or_else, reaches, max_events, events_from, mines_from, mines_section, settings_at, settings_section, mine_count_at, sections_of, events_end, book_ends, book_of}
use Rattle.cells.proofs.Words.{pick_both}
use Rattle.book.proofs.Reading.{count_bounds}

pub record Placed (n : ℕ) (b : Book) : Type 0 where
  pub within : b.place ≤ n

or_else_tested : (n place : ℕ) (t : Bool) {most : ℕ} {rest : Book} → place ≤ most → (t ≡ true → Placed most rest) → Placed most (or_else n place t rest)
or_else_tested n place true h a = a refl
or_else_tested n place false h a = record { within = h }

pub or_else_placed : (n place : ℕ) (t : Bool) {most : ℕ} {rest : Book} → place ≤ most → Placed most rest → Placed most (or_else n place t rest)
or_else_placed n place t h a = or_else_tested n place t h (λ _. a)

pub reaches_placed : (s : List ℕ) (end : ℕ) {rest : Book} → (end ≤ length s → Placed (length s) rest) → Placed (length s) (reaches s end rest)
reaches_placed s end {rest} f = go (leb end (length s)) refl
  where
    go : (t : Bool) → leb end (length s) ≡ t → Placed (length s) (or_else 40 (length s) t rest)
    go true e = f (leb-true end (length s) e)
    go false e = record { within = omega arith }

events_placed : (s : List ℕ) (at : ℕ) (g : Settings) (minesAt n : ℕ) → Placed (length s) (events_from s at g minesAt n)
unfolding events_from
events_placed s at g minesAt n =
    reaches_placed s (at + 2) (λ h.
    or_else_placed 44 at (leb (word_at s at) max_events) (omega arith)
    (reaches_placed s (at + 2 + 3 * word_at s at) (λ k. record { within = omega arith })))

mines_placed : (s : List ℕ) (R C at n left : ℕ) (rest : Book) → Placed (length s) rest → Placed (length s) (mines_from s R C at n left rest)
unfolding mines_from
mines_placed s R C at n zero rest a = a
mines_placed s R C at n (suc left) rest a =
    let more = mines_placed s R C at (suc n) left rest a in
    reaches_placed s (at + 2 * n + 2) (λ h. or_else_placed 42 (at + 2 * n) (mine_ok R C (drop at s) n) (omega arith) more)

section_placed : (s : List ℕ) (at : ℕ) (g : Settings) → Placed (length s) (mines_section s at g)
unfolding mines_section
section_placed s at g =
    reaches_placed s (at + 2) (λ h.
    or_else_placed 24 at (ltb (word_at s at) (g.rows * g.columns)) (omega arith)
    (mines_placed s g.rows g.columns (at + 2) 0 (word_at s at) (events_from s (at + 2 + 2 * word_at s at) g (at + 2) (word_at s at))
    (events_placed s (at + 2 + 2 * word_at s at) g (at + 2) (word_at s at))))

settings_placed : (s : List ℕ) {rest : Book} → Placed (length s) rest → Placed (length s) (settings_section s rest)
unfolding settings_section
settings_placed s a =
    reaches_placed s 1 (λ one.
    or_else_tested 41 0 (eqb (byte_at s 0) 4 || eqb (byte_at s 0) 5) (omega arith) (λ count.
    let four = (count_bounds (byte_at s 0) count).0 in
    reaches_placed s (mine_count_at s) (λ there.
    or_else_placed 41 4 (leb (byte_at s 4) 1) (omega arith)
    (or_else_placed 20 1 (size_ok (byte_at s 1) (byte_at s 2)) (omega arith)
    (or_else_placed 25 3 (mode_ok (byte_at s 3)) (omega arith)
    (or_else_placed 45 5 (rules_ok (rules_at s)) (omega arith) a))))))

pub end_placed : (s : List ℕ) (end : ℕ) (b : Book) → Placed (length s) b → Placed (length s) (book_ends s end b)
unfolding book_ends
end_placed s end b a =
    pick_both (Placed (length s)) (eqb b.number 0) (or_else 43 end (leb (length s) end) b) b (λ _. go (leb (length s) end) refl) (λ _. a)
  where
    go : (t : Bool) → leb (length s) end ≡ t → Placed (length s) (or_else 43 end t b)
    go true e = a
    go false e = record { within = let h = leb-false (length s) end e in omega arith }

pub sections_placed : (s : List ℕ) → Placed (length s) (sections_of s)
unfolding sections_of
sections_placed s = settings_placed s (section_placed s (mine_count_at s) (settings_at s))

pub book_placed : (s : List ℕ) → Placed (length s) (book_of s)
unfolding book_of
book_placed s = end_placed s (events_end (sections_of s)) (sections_of s) (sections_placed s)
