-- From a book's last play to its verdict: what playing asks of the part before the claims is there, and each way out is the definition's. One outcome.
use mathlib.Core.Path.{◌≡◌, ◌∙◌, sym, ap, ap₂, refl}
use mathlib.Core.Bool.{Bool, true, false}
use mathlib.Core.List.{List}
use Prim.Native.Nat.{ℕ, ◌+◌, ◌<◌, ◌≤◌}
use native.Mathlib.Omega.{arith}
use borrow.Author.Tests.{eq-eqb, ne_eqb}
use lib.Dec.{eqb}
use lib.ListN.{length, take}
use Rattle.rules.specs.declared.Book.{Book}
use Rattle.rules.specs.declared.Played.{Played}
use Rattle.rules.specs.declared.Position.{Position}
use Rattle.rules.specs.Words.{pick}
use Rattle.rules.specs.Clicks.{Play}
use Rattle.rules.specs.Book.{events_end, book_of}
use Rattle.rules.specs.Printout.{book_plays, book_end}
use Rattle.cells.proofs.Words.{one}
use Rattle.rules.specs.declared.Verdict.{Verdict}
use Rattle.rules.specs.declared.Verdict.TheVariants.{Accepted, Refused, EventRefused, NotEnded}
use Rattle.rules.specs.Claims.{verdict_number, claimed_book_of, book_last, ten_values, claims_judged, check_of, is_ended, claim_of, claims_of, CheckBookIs, unclaimed, claim_book_of, ClaimBookIs}
use Rattle.claims.proofs.Behind.{Claimed, claimed_means, claimed_book_lem, claimed_plays, claimed_last}
use Rattle.claims.proofs.Order.{check_event, check_claims, claim_refused, claim_event, claim_running, claim_done}
use Rattle.endings.specs.Ends.{LastPlayed}
use Rattle.rules.specs.declared.Claim.{Claim}

-- ---- the checker -------------------------------------------------------------------------------------------------------------------------

module _ (s : List ℕ) (b : Book) (e : b ≡ claimed_book_of s) (z : b.number ≡ 0) where
  claimed : Claimed s b
  claimed = claimed_means s b e z

  pub check_there : events_end b + 38 ≤ length s
  check_there = let ends = claimed.ends in omega arith

  pub check_reaches : events_end b ≤ length s
  check_reaches = let ends = claimed.ends in omega arith

  pub check_asks : (b ≡ book_of (take (events_end b) s)) × (b.number ≡ 0)
  check_asks = (claimed_book_lem s b claimed, z)

  last_is : book_last (take (events_end b) s) b ≡ book_last s b
  last_is = claimed_last s b claimed

  module _ {o : Played} (l : LastPlayed (take (events_end b) s) b o) where
    pub check_refuses : 20 ≤ o.answer → EventRefused (o.position.events + 1) ≡ check_of s
    check_refuses h =
        ap EventRefused (l.number h ∙ ap length (claimed_plays s b claimed))
        ∙ check_event s b e z (rw (l.answer ∙ ap (λ (x : Play). x.answer) last_is) at h)

    pub check_judges : o.answer < 20 → {v : Verdict} → v ≡ claims_judged s (events_end b) (ten_values o.position) → v ≡ check_of s
    check_judges h w =
        w ∙ ap (λ (p : Position). claims_judged s (events_end b) (ten_values p)) (l.position ∙ ap (λ (x : Play). x.desk.position) last_is)
        ∙ check_claims s b e z (rw (l.answer ∙ ap (λ (x : Play). x.answer) last_is) at h)

-- ---- the second program ------------------------------------------------------------------------------------------------------------------

abbrev made : Verdict → List ℕ → Claim
made v section = record { verdict = v; section = section }

module _ (s : List ℕ) where
  refusal_is : (v : Verdict) → v ≡ claim_of s → (verdict_number v ≡ 0 → ⊥) → {r : Claim} → r ≡ unclaimed v → r ≡ claim_book_of s
  unfolding claim_book_of
  refusal_is v e n h = h ∙ ap unclaimed e ∙ sym (simp (ne_eqb (verdict_number (claim_of s)) 0 (λ (q : verdict_number (claim_of s) ≡ 0). n (ap verdict_number e ∙ q))))

  section_is : Accepted ≡ claim_of s → {p : Position} → p ≡ (book_end s (book_of s)).position → {section : List ℕ} → section ≡ claims_of p
      → made Accepted section ≡ claim_book_of s
  unfolding claim_book_of
  section_is e k h =
      ap₂ made e (h ∙ ap claims_of k) ∙ sym (simp (eq-eqb (verdict_number (claim_of s)) 0 (sym (ap verdict_number e))))

module _ (s : List ℕ) (b : Book) (e : b ≡ book_of s) where
  -- a book's own refusals have numbers from 20 on, 0 none
  pub claim_refuses_book : (b.number ≡ 0 → ⊥) → {r : Claim} → r ≡ unclaimed (Refused b.number b.place) → ClaimBookIs s r
  claim_refuses_book n h = refusal_is s (Refused b.number b.place) (claim_refused s b e n) n h

  module _ (z : b.number ≡ 0) {o : Played} (l : LastPlayed s b o) where
    pub claim_refuses_event : 20 ≤ o.answer → {r : Claim} → r ≡ unclaimed (EventRefused (o.position.events + 1)) → ClaimBookIs s r
    claim_refuses_event h w =
        refusal_is s (EventRefused (length (book_plays s b))) (claim_event s b e z (rw l.answer at h)) (λ q. omega arith)
        (w ∙ ap (λ (n : ℕ). unclaimed (EventRefused n)) (l.number h))

    module _ (h : o.answer < 20) {t : Bool} (g : t ≡ is_ended o.position.game) where
      game_is : is_ended (book_end s b).position.game ≡ t
      game_is = sym (g ∙ ap (λ (p : Position). is_ended p.game) l.position)

      pub claim_refuses_running : t ≡ false → {r : Claim} → r ≡ unclaimed NotEnded → ClaimBookIs s r
      claim_refuses_running q w = refusal_is s NotEnded (claim_running s b e z (rw l.answer at h) (game_is ∙ q)) (λ x. omega arith) w

      pub claim_writes : t ≡ true → {section : List ℕ} → section ≡ claims_of o.position → ClaimBookIs s (record { verdict = Accepted; section = section })
      claim_writes q w =
          section_is s (claim_done s b e z (rw l.answer at h) (game_is ∙ q)) (l.position ∙ ap (λ (x : Book). (book_end s x).position) e) w

-- ---- what a caller reads off the second program's answer -----------------------------------------------------------------------------------

module _ (s : List ℕ) {r : Claim} (e : ClaimBookIs s r) where
  pub claim_verdict : r.verdict ≡ claim_of s
  unfolding claim_book_of
  claim_verdict = ap (λ (x : Claim). x.verdict) e ∙ go (eqb (verdict_number (claim_of s)) 0)
    where
      go : (t : Bool) → (pick t (made (claim_of s) (claims_of (book_end s (book_of s)).position)) (unclaimed (claim_of s))).verdict ≡ claim_of s
      go true = refl
      go false = refl

  pub claim_section : verdict_number r.verdict ≡ 0 → r.section ≡ claims_of (book_end s (book_of s)).position
  unfolding claim_book_of
  claim_section z =
      ap (λ (x : Claim). x.section) e
      ∙ ap (λ (t : Bool). (pick t (made (claim_of s) (claims_of (book_end s (book_of s)).position)) (unclaimed (claim_of s))).section)
      (eq-eqb (verdict_number (claim_of s)) 0 (sym (ap verdict_number claim_verdict) ∙ z))

-- ---- any two outcomes that the contracts allow are equal ---------------------------------------------------------------------------------

pub check_book_one : (s : List ℕ) (r r' : Verdict) → CheckBookIs s r → CheckBookIs s r' → r ≡ r'
check_book_one s r r' h h' = one h h'

pub claim_book_one : (s : List ℕ) (r r' : Claim) → ClaimBookIs s r → ClaimBookIs s r' → r ≡ r'
claim_book_one s r r' h h' = one h h'
