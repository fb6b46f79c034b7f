-- The verdicts by cases, each in its place of the order: one equation for each way out of the checker and of the second program.
use mathlib.Core.Path.{◌≡◌, ◌∙◌, sym, ap, refl}
use mathlib.Core.Bool.{Bool, true, false, false≢true}
use mathlib.Core.List.{List, ◌++◌}
use Prim.Native.Nat.{ℕ, ◌+◌, ◌<◌, ◌≤◌}
use native.Mathlib.Omega.{arith}
use borrow.Author.Tests.{le-leb, lt-leb, eq-eqb, ne_eqb}
use lib.ListN.{length}
use Rattle.rules.specs.declared.Book.{Book}
use Rattle.rules.specs.Words.{pick}
use lib.Dec.{leb, eqb}
use Rattle.rules.specs.Book.{byte_at, refused_book, sections_of, events_end, book_of}
use Rattle.rules.specs.Printout.{book_plays, book_end}
use Rattle.book.proofs.Reading.{end_over}
use Rattle.rules.specs.declared.Verdict.{Verdict}
use Rattle.rules.specs.declared.Verdict.TheVariants.{Accepted, Refused, EventRefused, NotEnded}
use Rattle.rules.specs.Claims.{verdict_number, claims_section, claimed_book_of, ten_values, book_last, events_judged, claims_judged, check_by, check_of, is_ended, claim_by, claim_of, claims_of, verdict_line, claim_text_of}
use Rattle.claims.proofs.Judging.{section_none, section_count, section_short, section_there, claimed_read, claimed_refused}

module _ (s : List ℕ) (b : Book) (rest : Verdict) where
  events_refused : 20 ≤ (book_last s b).answer → events_judged s b rest ≡ EventRefused (length (book_plays s b))
  unfolding events_judged
  events_refused h = simp (le-leb _ _ h)

  events_accepted : (book_last s b).answer < 20 → events_judged s b rest ≡ rest
  unfolding events_judged
  events_accepted h = simp (lt-leb _ _ h)

-- ---- the checker -------------------------------------------------------------------------------------------------------------------------

module _ (s : List ℕ) (b : Book) (e : b ≡ claimed_book_of s) where
  by_book : check_by s b ≡ check_of s
  unfolding check_of
  by_book = ap (check_by s) e

  pub check_refused : (b.number ≡ 0 → ⊥) → Refused b.number b.place ≡ check_of s
  unfolding check_by
  check_refused n = sym (simp (ne_eqb b.number 0 n)) ∙ by_book

  module _ (z : b.number ≡ 0) where
    played : events_judged s b (claims_judged s (events_end b) (ten_values (book_end s b).position)) ≡ check_of s
    unfolding check_by
    played = sym (simp (eq-eqb b.number 0 z)) ∙ by_book

    pub check_event : 20 ≤ (book_last s b).answer → EventRefused (length (book_plays s b)) ≡ check_of s
    check_event h = sym (events_refused s b (claims_judged s (events_end b) (ten_values (book_end s b).position)) h) ∙ played

    pub check_claims : (book_last s b).answer < 20 → claims_judged s (events_end b) (ten_values (book_end s b).position) ≡ check_of s
    check_claims h = sym (events_accepted s b (claims_judged s (events_end b) (ten_values (book_end s b).position)) h) ∙ played

-- the refusals before a book is played, in their order: the book's own, 40, 80, 40, 43
module _ (s : List ℕ) where
  pub check_book : ((sections_of s).number ≡ 0 → ⊥) → check_of s ≡ Refused (sections_of s).number (sections_of s).place
  check_book n = sym (check_refused s (sections_of s) (claimed_refused s (sections_of s) refl n) n)

  module _ (z : (sections_of s).number ≡ 0) where
    refused_as : (n place : ℕ) → (n ≡ 0 → ⊥) → claims_section s (events_end (sections_of s)) (sections_of s) ≡ refused_book n place → check_of s ≡ Refused n place
    refused_as n place h e = sym (check_refused s (refused_book n place) (sym e ∙ claimed_read s (sections_of s) refl z) h)

    pub check_none : length s ≤ events_end (sections_of s) → check_of s ≡ Refused 40 (length s)
    check_none h = refused_as 40 (length s) (λ q. omega arith) (section_none s (events_end (sections_of s)) (sections_of s) (omega arith))

    module _ (some : events_end (sections_of s) < length s) where
      pub check_count : (byte_at s (events_end (sections_of s)) ≡ 9 → ⊥) → check_of s ≡ Refused 80 (events_end (sections_of s))
      check_count h =
          refused_as 80 (events_end (sections_of s)) (λ q. omega arith) (section_count s (events_end (sections_of s)) (sections_of s) (omega arith) h)

      module _ (nine : byte_at s (events_end (sections_of s)) ≡ 9) where
        pub check_short : length s < events_end (sections_of s) + 38 → check_of s ≡ Refused 40 (length s)
        check_short h =
            refused_as 40 (length s) (λ q. omega arith) (section_short s (events_end (sections_of s)) (sections_of s) (omega arith) nine h)

        pub check_over : events_end (sections_of s) + 38 < length s → check_of s ≡ Refused 43 (events_end (sections_of s) + 38)
        check_over h =
            refused_as 43 (events_end (sections_of s) + 38) (λ q. omega arith)
            (section_there s (events_end (sections_of s)) (sections_of s) (omega arith) nine (omega arith)
            ∙ end_over s (events_end (sections_of s) + 38) (sections_of s) z h)

-- ---- the second program ------------------------------------------------------------------------------------------------------------------

module _ (s : List ℕ) (b : Book) (e : b ≡ book_of s) where
  by_claim : claim_by s b ≡ claim_of s
  unfolding claim_of
  by_claim = ap (claim_by s) e

  pub claim_refused : (b.number ≡ 0 → ⊥) → Refused b.number b.place ≡ claim_of s
  unfolding claim_by
  claim_refused n = sym (simp (ne_eqb b.number 0 n)) ∙ by_claim

  module _ (z : b.number ≡ 0) where
    pub claim_event : 20 ≤ (book_last s b).answer → EventRefused (length (book_plays s b)) ≡ claim_of s
    unfolding claim_by events_judged
    claim_event h = sym (simp (eq-eqb b.number 0 z, le-leb _ _ h)) ∙ by_claim

    module _ (h : (book_last s b).answer < 20) where
      pub claim_running : is_ended (book_end s b).position.game ≡ false → NotEnded ≡ claim_of s
      unfolding claim_by events_judged
      claim_running g = sym (simp (eq-eqb b.number 0 z, lt-leb _ _ h, g)) ∙ by_claim

      pub claim_done : is_ended (book_end s b).position.game ≡ true → Accepted ≡ claim_of s
      unfolding claim_by events_judged
      claim_done g = sym (simp (eq-eqb b.number 0 z, lt-leb _ _ h, g)) ∙ by_claim

-- a verdict whose number is 0 is Accepted: no refusal of a book has that number
pub claim_zero : (s : List ℕ) → verdict_number (claim_of s) ≡ 0 → claim_of s ≡ Accepted
unfolding claim_of claim_by events_judged
claim_zero s h =
    go (eqb (book_of s).number 0) refl (leb 20 (book_last s (book_of s)).answer) (is_ended (book_end s (book_of s)).position.game) h
  where
    plays : ℕ
    plays = length (book_plays s (book_of s))

    by : Bool → Bool → Bool → Verdict
    by t u w = pick t (pick u (EventRefused plays) (pick w Accepted NotEnded)) (Refused (book_of s).number (book_of s).place)

    go : (t : Bool) → eqb (book_of s).number 0 ≡ t → (u w : Bool) → verdict_number (by t u w) ≡ 0 → by t u w ≡ Accepted
    go true e true w h = absurd (omega arith)
    go true e false true h = refl
    go true e false false h = absurd (omega arith)
    go false e u w h = absurd (false≢true (sym e ∙ eq-eqb _ _ h))

-- what it writes
module _ (s : List ℕ) where
  pub text_refused : (verdict_number (claim_of s) ≡ 0 → ⊥) → verdict_line (claim_of s) ≡ claim_text_of s
  unfolding claim_text_of
  text_refused n = sym (simp (ne_eqb (verdict_number (claim_of s)) 0 n))

  pub text_claimed : verdict_number (claim_of s) ≡ 0 → s ++ claims_of (book_end s (book_of s)).position ≡ claim_text_of s
  unfolding claim_text_of
  text_claimed z = sym (simp (eq-eqb (verdict_number (claim_of s)) 0 z))
