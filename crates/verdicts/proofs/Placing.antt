-- The place that a verdict tells is no further than the bytes' end.
use mathlib.Core.Bool.{Bool}
use mathlib.Core.List.{List}
use Prim.Native.Nat.{ℕ, ◌+◌, ◌≤◌}
use native.Mathlib.Omega.{arith}
use lib.Dec.{leb, eqb}
use lib.ListN.{length, get_or}
use Rattle.rules.specs.declared.Book.{Book}
use Rattle.rules.specs.declared.Verdict.{Verdict}
use Rattle.rules.specs.declared.Verdict.TheVariants.{Accepted, Refused, EventRefused, NotEnded, ClaimDiffers}
use Rattle.rules.specs.Words.{pick, first_not}
use Rattle.rules.specs.Book.{events_end, book_of}
use Rattle.rules.specs.Printout.{book_plays, book_end}
use Rattle.rules.specs.Claims.{claimed_book_of, claim_at, ten_values, book_last, events_judged, agrees, claims_judged, check_by, check_of, is_ended, claim_by, claim_of}
use Rattle.cells.proofs.Words.{pick_both}
use Rattle.book.proofs.Places.{book_placed}
use Rattle.claims.proofs.Behind.{claimed_placed}
use Rattle.verdicts.specs.Places.{place_in}

-- a verdict whose place, if it tells one, is among so many bytes
abbrev Within : ℕ → Verdict → Type 0
Within n v = place_in v ≤ n

module _ (n : ℕ) where
  one_of : (t : Bool) (v w : Verdict) → Within n v → Within n w → Within n (pick t v w)
  one_of t v w a b = pick_both (Within n) t v w (λ _. a) (λ _. b)

  claims_within : (s : List ℕ) (at : ℕ) (values : List ℕ) → Within n (claims_judged s at values)
  unfolding claims_judged
  claims_within s at values =
      let i : ℕ = first_not (agrees s at values) 10 in
      one_of (eqb i 10) Accepted (ClaimDiffers (i + 1) (claim_at s at i) (get_or values i 0)) (omega arith) (omega arith)

  events_within : (s : List ℕ) (b : Book) (rest : Verdict) → Within n rest → Within n (events_judged s b rest)
  unfolding events_judged
  events_within s b rest h = one_of (leb 20 (book_last s b).answer) (EventRefused (length (book_plays s b))) rest (omega arith) h

  check_within : (s : List ℕ) (b : Book) → b.place ≤ n → Within n (check_by s b)
  unfolding check_by
  check_within s b h =
      let v : Verdict = claims_judged s (events_end b) (ten_values (book_end s b).position) in
      one_of (eqb b.number 0) (events_judged s b v) (Refused b.number b.place) (events_within s b v (claims_within s (events_end b) (ten_values (book_end s b).position))) h

  claim_within : (s : List ℕ) (b : Book) → b.place ≤ n → Within n (claim_by s b)
  unfolding claim_by
  claim_within s b h =
      let v : Verdict = pick (is_ended (book_end s b).position.game) Accepted NotEnded in
      one_of (eqb b.number 0) (events_judged s b v) (Refused b.number b.place)
      (events_within s b v (one_of (is_ended (book_end s b).position.game) Accepted NotEnded (omega arith) (omega arith))) h

pub check_placed : (s : List ℕ) → place_in (check_of s) ≤ length s
unfolding check_of
check_placed s = check_within (length s) s (claimed_book_of s) (claimed_placed s)

pub claim_placed : (s : List ℕ) → place_in (claim_of s) ≤ length s
unfolding claim_of
claim_placed s = claim_within (length s) s (book_of s) (book_placed s).within
