-- A book with claims behind it: its sections end where the claims begin, and it is played as the book by itself.
use mathlib.Core.Path.{◌≡◌, ◌∙◌, sym, ap, ap₂, refl, subst}
use mathlib.Core.Bool.{Bool, true, false, false≢true}
use mathlib.Core.List.{List, ◌∷◌, ◌++◌}
use Prim.Native.Nat.{ℕ, suc, ◌+◌, ◌*◌, ◌<◌, ◌≤◌}
use native.Mathlib.Omega.{arith}
use borrow.Author.Tests.{eqb-true, leb-true, eq-eqb}
use lib.Dec.{leb, eqb}
use lib.ListN.{length, take, drop, length-drop, take-append-drop}
use lib.Seq.{take-append-le, drop-append-le, drop-cons}
use lib.IntN.{ℤ}
use Rattle.rules.specs.declared.Book.{Book}
use Rattle.rules.specs.Words.{pick}
use Rattle.rules.specs.Board.{numbered}
use Rattle.rules.specs.Clicks.{Play, done}
use Rattle.rules.specs.Calls.{fresh_desk, plays, last_play}
use Rattle.rules.specs.Book.{byte_at, or_else, sections_of, events_end, book_ends, book_of, mines_of, events_of}
use Rattle.rules.specs.Printout.{book_board, book_plays}
use Rattle.book.proofs.Accepting.{book_within, end_passed}
use Rattle.book.proofs.Reading.{end_right}
use Rattle.cells.proofs.Words.{pick_both}
use Rattle.book.proofs.Places.{Placed, or_else_placed, reaches_placed, end_placed, sections_placed}
use Rattle.book.proofs.Onward.{front_book}
use Rattle.rules.specs.Claims.{claims_section, claimed_book_of, book_last}
use Rattle.claims.proofs.Judging.{section_there, claimed_read}

-- ---- a part of a list that goes on -------------------------------------------------------------------------------------------------------

part_behind : (s more : List ℕ) (at n : ℕ) → at + n ≤ length s → take n (drop at (s ++ more)) ≡ take n (drop at s)
part_behind s more at n h =
    let reaches-at : at ≤ length s = omega arith in
    let reaches_end : n ≤ length (drop at s) = simp length-drop (omega arith) in
    ap (take n) (drop-append-le at s more reaches-at) ∙ take-append-le n (drop at s) more reaches_end

-- an accepted book is played the same whatever stands behind it
module _ (s more : List ℕ) where
  board_behind : book_board (s ++ more) (book_of s) ≡ book_board s (book_of s)
  unfolding mines_of
  board_behind =
      ap (numbered (book_of s).settings.rows (book_of s).settings.columns)
      (part_behind s more (book_of s).mines_at (2 * (book_of s).mines) (book_within s).mines)

  events_behind : events_of (s ++ more) (book_of s) ≡ events_of s (book_of s)
  unfolding events_of
  events_behind = part_behind s more (book_of s).events_at (3 * (book_of s).events) (book_within s).events

  pub plays_behind : book_plays (s ++ more) (book_of s) ≡ book_plays s (book_of s)
  plays_behind = ap₂ (λ (B : List ℤ) (es : List ℕ). plays B es (fresh_desk (book_of s).settings B)) board_behind events_behind

  pub last_behind : book_last (s ++ more) (book_of s) ≡ book_last s (book_of s)
  last_behind = ap₂ (λ (B : List ℤ) (os : List Play). last_play (done 0 (fresh_desk (book_of s).settings B)) os) board_behind plays_behind

-- ---- what is read of a book with claims --------------------------------------------------------------------------------------------------

-- a test that a book passed
passed : (n place : ℕ) (t : Bool) (rest : Book) → 0 < n → (or_else n place t rest).number ≡ 0 → (t ≡ true) × (rest.number ≡ 0)
passed n place true rest h e = (refl, e)
passed n place false rest h e = absurd (omega arith)

-- the sections are right; the count byte is 9; the section is there, and nothing behind it
pub record Claimed (s : List ℕ) (b : Book) : Type 0 where
  pub sections : b ≡ sections_of s
  pub right : b.number ≡ 0
  pub nine : byte_at s (events_end b) ≡ 9
  pub ends : length s ≡ events_end b + 38

section_passed : (s : List ℕ) (b : Book) → b ≡ sections_of s → (claims_section s (events_end b) b).number ≡ 0 → Claimed s b
unfolding claims_section
section_passed s b e h =
    let at : ℕ = events_end b in
    let ended : Book = book_ends s (at + 38) b in
    let there : Book = or_else 40 (length s) (leb (at + 38) (length s)) ended in
    let count : Book = or_else 80 at (eqb (byte_at s at) 9) there in
    let some = passed 40 (length s) (leb (at + 1) (length s)) count (omega arith) h in
    let nine = passed 80 at (eqb (byte_at s at) 9) there (omega arith) some.1 in
    let long = passed 40 (length s) (leb (at + 38) (length s)) ended (omega arith) nine.1 in
    let end = end_passed s (at + 38) b long.1 in
    let most : length s ≤ at + 38 = end.1 in
    let least : at + 38 ≤ length s = leb-true _ _ long.0 in
    record { sections = e; right = end.0; nine = eqb-true _ _ nine.0; ends = omega arith }

section_right : (s : List ℕ) (b : Book) → Claimed s b → claims_section s (events_end b) b ≡ b
section_right s b c =
    let ends = c.ends in
    section_there s (events_end b) b (omega arith) c.nine (omega arith) ∙ end_right s (events_end b + 38) b c.right (omega arith)

section_placed : (s : List ℕ) (at : ℕ) (b : Book) → Placed (length s) b → Placed (length s) (claims_section s at b)
unfolding claims_section
section_placed s at b p =
    reaches_placed s (at + 1) (λ h.
    or_else_placed 80 at (eqb (byte_at s at) 9) (omega arith)
    (reaches_placed s (at + 38) (λ k. end_placed s (at + 38) b p)))

-- what is read as a book with claims is one
pub claimed_means : (s : List ℕ) (b : Book) → b ≡ claimed_book_of s → b.number ≡ 0 → Claimed s b
unfolding claimed_book_of
claimed_means s b e z = go (eqb (sections_of s).number 0) refl
  where
    by : Bool → Book
    by t = pick t (claims_section s (events_end (sections_of s)) (sections_of s)) (sections_of s)

    go : (t : Bool) → eqb (sections_of s).number 0 ≡ t → Claimed s b
    go true d =
        let read : b ≡ claims_section s (events_end (sections_of s)) (sections_of s) = e ∙ ap by d in
        let c = section_passed s (sections_of s) refl (sym (ap (λ (x : Book). x.number) read) ∙ z) in
        let same : b ≡ sections_of s = read ∙ section_right s (sections_of s) c in
        subst (Claimed s) (sym same) c
    go false d = absurd (false≢true (sym d ∙ eq-eqb _ _ (sym (ap (λ (x : Book). x.number) (e ∙ ap by d)) ∙ z)))

module _ (s : List ℕ) (b : Book) (c : Claimed s b) where
  -- and what is one is read so
  pub claimed_is : b ≡ claimed_book_of s
  claimed_is = sym (section_right s b c) ∙ claimed_read s b c.sections c.right

  -- what stands before the claims is the book
  pub claimed_book_lem : b ≡ book_of (take (events_end b) s)
  claimed_book_lem =
      c.sections ∙ sym (front_book s (sym (ap (λ (x : Book). x.number) c.sections) ∙ c.right))
      ∙ ap (λ (x : Book). book_of (take (events_end x) s)) (sym c.sections)

  pub claimed_split : s ≡ take (events_end b) s ++ (9 ∷ drop (events_end b + 1) s)
  claimed_split =
      let next : suc (events_end b) ≡ events_end b + 1 = omega arith in
      sym (take-append-drop (events_end b) s)
      ∙ ap (λ (l : List ℕ). take (events_end b) s ++ l) (drop-cons s (events_end b) 0 (let ends = c.ends in omega arith))
      ∙ ap₂ (λ (x n : ℕ). take (events_end b) s ++ (x ∷ drop n s)) c.nine next

  -- and it is played as that book is
  pub claimed_plays : book_plays (take (events_end b) s) b ≡ book_plays s b
  claimed_plays =
      ap (book_plays (take (events_end b) s)) claimed_book_lem
      ∙ sym (plays_behind (take (events_end b) s) (drop (events_end b) s))
      ∙ ap₂ book_plays (take-append-drop (events_end b) s) (sym claimed_book_lem)

  pub claimed_last : book_last (take (events_end b) s) b ≡ book_last s b
  claimed_last =
      ap (book_last (take (events_end b) s)) claimed_book_lem
      ∙ sym (last_behind (take (events_end b) s) (drop (events_end b) s))
      ∙ ap₂ book_last (take-append-drop (events_end b) s) (sym claimed_book_lem)

-- a refusal stands no further than the bytes' end
pub claimed_placed : (s : List ℕ) → (claimed_book_of s).place ≤ length s
unfolding claimed_book_of
claimed_placed s =
    (pick_both (Placed (length s)) (eqb (sections_of s).number 0) (claims_section s (events_end (sections_of s)) (sections_of s)) (sections_of s)
    (λ _. section_placed s (events_end (sections_of s)) (sections_of s) (sections_placed s)) (λ _. sections_placed s)).within
