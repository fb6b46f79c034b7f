-- Nothing past the longest book, or the longest book with claims, is read: a longer input and its first bytes get the same answer.
use mathlib.Core.Path.{◌≡◌, ◌∙◌, sym, ap, ap₂, refl}
use mathlib.Core.List.{List}
use Prim.Native.Nat.{ℕ, ◌+◌, ◌<◌, ◌≤◌}
use native.Mathlib.Omega.{arith}
use native.Mathlib.Decide.{dec_lt, ℕ_discrete}
use lib.ListN.{length, take}
use lib.Seq.{length-take-le, take_all, get_or-take}
use Rattle.rules.specs.declared.Book.{Book}
use Rattle.rules.specs.Book.{byte_at, sections_of, events_end, book_of}
use Rattle.book.specs.Written.{longest}
use Rattle.book.proofs.Accepting.{sections_short, accepted_longest}
use Rattle.book.proofs.Prefix.{prefix_sections, prefix_read}
use Rattle.rules.specs.declared.Verdict.{Verdict}
use Rattle.rules.specs.declared.Verdict.TheVariants.{Refused}
use Rattle.rules.specs.Claims.{verdict_number, check_of, claim_of, verdict_line, claim_text_of}
use Rattle.claims.proofs.Order.{check_book, check_count, check_over, claim_refused, text_refused}

-- 38 bytes more than the longest book
abbrev pub longest_claimed : ℕ
longest_claimed = longest + 38

module _ (s : List ℕ) (n : ℕ) (long : longest_claimed < n) (more : n < length s) where
  cut : List ℕ
  cut = take n s

  cut_length : length cut ≡ n
  unfolding cut
  cut_length = length-take-le n s (omega arith)

  sections_cut : sections_of cut ≡ sections_of s
  unfolding cut
  sections_cut = prefix_sections s n (omega arith)

  end_cut : events_end (sections_of cut) ≡ events_end (sections_of s)
  end_cut = ap events_end sections_cut

  module _ (z : (sections_of s).number ≡ 0) where
    short : events_end (sections_of s) + 38 < n
    short = let l = sections_short s z in omega arith

    zero_cut : (sections_of cut).number ≡ 0
    zero_cut = ap (λ (b : Book). b.number) sections_cut ∙ z

    byte_cut : byte_at cut (events_end (sections_of cut)) ≡ byte_at s (events_end (sections_of s))
    unfolding cut
    byte_cut = ap (byte_at cut) end_cut ∙ get_or-take n s (events_end (sections_of s)) 0 (let h = short in omega arith)

    check_right : check_of cut ≡ check_of s
    check_right = either (ℕ_discrete (byte_at s (events_end (sections_of s))) 9)
      where
        either : Dec (byte_at s (events_end (sections_of s)) ≡ 9) → check_of cut ≡ check_of s
        either (yes q) =
            let h = short in
            let l = cut_length in
            let k = end_cut in
            check_over cut zero_cut (omega arith) (byte_cut ∙ q) (omega arith) ∙ ap (λ (end : ℕ). Refused 43 (end + 38)) end_cut
            ∙ sym (check_over s z (omega arith) q (omega arith))
        either (no q) =
            let h = short in
            let l = cut_length in
            let k = end_cut in
            check_count cut zero_cut (omega arith) (λ e. q (sym byte_cut ∙ e)) ∙ ap (λ (end : ℕ). Refused 80 end) end_cut
            ∙ sym (check_count s z (omega arith) q)

  check_wrong : ((sections_of s).number ≡ 0 → ⊥) → check_of cut ≡ check_of s
  check_wrong q =
      check_book cut (λ z. q (sym (ap (λ (b : Book). b.number) sections_cut) ∙ z))
      ∙ ap (λ (b : Book). Refused b.number b.place) sections_cut ∙ sym (check_book s q)

  check_cut : check_of cut ≡ check_of s
  check_cut = either (ℕ_discrete (sections_of s).number 0)
    where
      either : Dec ((sections_of s).number ≡ 0) → check_of cut ≡ check_of s
      either (yes z) = check_right z
      either (no q) = check_wrong q

-- the checker
pub prefix_check : (s : List ℕ) (n : ℕ) → longest_claimed < n → check_of (take n s) ≡ check_of s
unfolding cut
prefix_check s n long = either (dec_lt n (length s))
  where
    either : Dec (n < length s) → check_of (take n s) ≡ check_of s
    either (yes q) = check_cut s n long q
    either (no q) = ap check_of (take_all n s (omega arith))

-- the second program
pub prefix_claim : (s : List ℕ) (n : ℕ) → longest < n → claim_text_of (take n s) ≡ claim_text_of s
prefix_claim s n long = either (dec_lt n (length s))
  where
    either : Dec (n < length s) → claim_text_of (take n s) ≡ claim_text_of s
    either (no q) = ap claim_text_of (take_all n s (omega arith))
    either (yes q) =
        let wrong : (book_of s).number ≡ 0 → ⊥ = λ z. omega (arith, accepted_longest s z) in
        let read = prefix_read s n long in
        let all : claim_of s ≡ Refused (book_of s).number (book_of s).place = sym (claim_refused s (book_of s) refl wrong) in
        let part : claim_of (take n s) ≡ Refused (book_of s).number (book_of s).place = sym (claim_refused (take n s) (book_of s) (sym read) wrong) in
        sym (text_refused (take n s) (λ z. wrong (sym (ap verdict_number part) ∙ z)))
        ∙ ap verdict_line (part ∙ sym all) ∙ text_refused s (λ z. wrong (sym (ap verdict_number all) ∙ z))
