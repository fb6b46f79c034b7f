-- What the second program writes is handed over whole: the line of a refusal, or the book and its claims.
use mathlib.Core.Path.{◌≡◌, ◌∙◌, sym, ap, refl}
use mathlib.Core.List.{List, ◌++◌}
use Prim.Native.Nat.{ℕ, ◌+◌, ◌<◌, ◌≤◌}
use native.Mathlib.Omega.{arith}
use lib.ListN.{length, take, length-append}
use Rattle.rules.specs.declared.Claim.{Claim}
use Rattle.rules.specs.declared.Position.{Position}
use Rattle.rules.specs.declared.Verdict.TheVariants.{Accepted}
use Rattle.rules.specs.Book.{book_of}
use Rattle.rules.specs.Printout.{book_end}
use Rattle.rules.specs.Claims.{verdict_number, claim_of, fours, claims_of, ClaimBookIs, verdict_line, claim_text_of}
use Rattle.writing.specs.Put.{Room, Put, PutWithin}
use Rattle.writing.proofs.Putting.{put_then, put_front, put_length}
use Rattle.claims.proofs.Order.{claim_zero, text_refused, text_claimed}
use Rattle.verdicts.specs.Places.{place_in}
use Rattle.verdicts.proofs.Placing.{claim_placed}
use Rattle.checking.proofs.Verdicts.{claim_verdict, claim_section}

section_long : (p : Position) → length (claims_of p) ≡ 38
unfolding claims_of fours
section_long p = refl

module _ (s : List ℕ) {c : Claim} (e : ClaimBookIs s c) (few : length s ≤ 28681) where
  pub place_fits : place_in c.verdict < 4294967296
  place_fits = let p = claim_placed s in let q = ap place_in (claim_verdict s e) in omega arith

  -- ---- a refusal -----------------------------------------------------------------------------------------------------------------------

  module _ {out : List ℕ} (room : 28719 ≡ length out) {out' : List ℕ} {r : ℕ} (p : PutWithin 66 (verdict_line c.verdict) 0 out out' r) where
    line : (r ≤ length out') × (take r out' ≡ verdict_line c.verdict)
    line = put_front (let h = p.short in omega arith) p.put

    pub line_fits : r ≤ length out'
    line_fits = line.0

    pub line_whole : (c.verdict ≡ Accepted → ⊥) → take r out' ≡ claim_text_of s
    line_whole h =
        line.1 ∙ ap verdict_line (claim_verdict s e)
        ∙ text_refused s (λ (z : verdict_number (claim_of s) ≡ 0). h (claim_verdict s e ∙ claim_zero s z))

  -- ---- a book --------------------------------------------------------------------------------------------------------------------------

  module _ (z : c.verdict ≡ Accepted) where
    section_is : c.section ≡ claims_of (book_end s (book_of s)).position
    section_is = claim_section s e (ap verdict_number z)

    long : length c.section ≡ 38
    long = ap length section_is ∙ section_long (book_end s (book_of s)).position

    module _ {out : List ℕ} (room : 28719 ≡ length out) {out' : List ℕ} {first : ℕ} (p : Put s 0 out out' first) where
      pub section_room : Room c.section first out'
      section_room = let l = put_length p in let m = p.next in let h = long in record { fits = omega arith }

      module _ {out'' : List ℕ} {end : ℕ} (q : Put c.section first out' out'' end) where
        whole : (end ≤ length out'') × (take end out'' ≡ s ++ c.section)
        whole = put_front (let l = length-append s c.section in let h = long in omega arith) (put_then p q)

        pub book_fits : end ≤ length out''
        book_fits = whole.0

        pub book_whole : take end out'' ≡ claim_text_of s
        book_whole =
            whole.1 ∙ ap (λ (l : List ℕ). s ++ l) section_is ∙ text_claimed s (sym (ap verdict_number (claim_verdict s e)) ∙ ap verdict_number z)
