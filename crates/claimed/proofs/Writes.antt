-- THE theorems on the second program: the checker accepts what it writes, which begins with the book, and which `replay` refuses at the book's end.
use mathlib.Core.Path.{◌≡◌, ◌∙◌, sym, ap, ap₂, refl, subst}
use mathlib.Core.Bool.{Bool, true, false}
use mathlib.Core.List.{List, [], ◌∷◌, ◌++◌}
use Prim.Native.Nat.{ℕ, zero, suc, ◌+◌, ◌*◌, ◌/◌, ◌%◌, ◌<◌, ◌≤◌}
use native.Mathlib.Omega.{arith}
use native.Mathlib.Nat.{div-div-eq-div-mul}
use native.Mathlib.Decide.{ℕ_discrete, dec_lt}
use borrow.Author.Tests.{lt-ltb, le-ltb}
use lib.ListN.{length, get_or, take, drop, length-append}
use lib.Seq.{take_at, get_or-append-add}
use lib.IntN.{ℤ}
use Rattle.rules.specs.declared.Book.{Book}
use Rattle.rules.specs.declared.Position.{Position}
use Rattle.rules.specs.States.{game_number}
use Rattle.rules.specs.Clicks.{Desk}
use Rattle.rules.specs.Book.{byte_at, refused_book, book_of}
use Rattle.rules.specs.Printout.{book_board, book_end, printout_by, printout_of}
use Rattle.cells.specs.Promises.{RoomAt}
use Rattle.keep.specs.Kept.{LawfulAt}
use Rattle.keep.proofs.Able.{lawful_room}
use Rattle.printing.proofs.Beginning.{end_lawful}
use Rattle.book.proofs.Onward.{more_refused}
use Rattle.text.specs.Texts.{refused_text}
use Rattle.text.proofs.Printed.{printout_refused}
use Rattle.rules.specs.declared.Verdict.{Verdict}
use Rattle.rules.specs.declared.Verdict.TheVariants.{Accepted, Refused, EventRefused, NotEnded}
use Rattle.rules.specs.Claims.{verdict_number, long_at, claim_at, ten_values, book_last, fours, claims_of, check_of, claim_of, is_ended, claim_text_of}
use Rattle.claims.proofs.Judging.{long_made, claim_count, claim_state}
use Rattle.claims.proofs.Order.{claim_refused, claim_event, claim_running, text_claimed}
use Rattle.claimed.specs.Vouched.{ClaimedBook, Vouched}
use Rattle.claimed.proofs.Checks.{vouched_accepted, accepted_events}

-- ---- a number in four bytes ----------------------------------------------------------------------------------------------------------------

split : (m : ℕ) → m ≡ 256 * (m / 256) + m % 256
split m = omega arith

within : (m : ℕ) → m < 256 → m ≡ m % 256
within m h = omega arith

-- four digits, each of the number that the ones before it leave
digits_sum : (n a b c w x y z : ℕ) → n ≡ 256 * a + w → a ≡ 256 * b + x → b ≡ 256 * c + y → c ≡ z → w + 256 * x + 65536 * (y + 256 * z) ≡ n
digits_sum n a b c w x y z en ea eb ec = omega arith

four_back : (n : ℕ) → n < 4294967296 → n % 256 + 256 * (n / 256 % 256) + 65536 * (n / 65536 % 256 + 256 * (n / 16777216 % 256)) ≡ n
four_back n h =
    digits_sum n (n / 256) (n / 65536) (n / 16777216) (n % 256) (n / 256 % 256) (n / 65536 % 256) (n / 16777216 % 256)
    (split n)
    (split (n / 256) ∙ ap (λ (k : ℕ). 256 * k + n / 256 % 256) (div-div-eq-div-mul n 256 256))
    (split (n / 65536) ∙ ap (λ (k : ℕ). 256 * k + n / 65536 % 256) (div-div-eq-div-mul n 65536 256))
    (within (n / 16777216) (omega arith))

-- the counts of a position are each below 2 ^ 32
pub record Small (p : Position) : Type 0 where
  pub left : p.counts.left < 4294967296
  pub right : p.counts.right < 4294967296
  pub double : p.counts.double < 4294967296
  pub lce : p.counts.lce < 4294967296
  pub rce : p.secrets.rce < 4294967296
  pub dce : p.counts.dce < 4294967296
  pub flag : p.counts.flag < 4294967296
  pub solved_left : p.secrets.solved_left < 4294967296
  pub solved_chord : p.secrets.solved_chord < 4294967296

lawful_small : (B : List ℤ) (d : Desk) → LawfulAt B d → Small d.position
lawful_small B d l =
    let r = lawful_room l in
    let left = r.left in
    let right = r.right in
    let double = r.double in
    let lce = r.lce in
    let dce = r.dce in
    let rce = r.rce in
    let flag = r.pass.flag in
    let solved = r.pass.solved in
    let solved_left = r.solved_left in
    record {
      left = omega arith;
      right = omega arith;
      double = omega arith;
      lce = omega arith;
      rce = omega arith;
      dce = omega arith;
      flag = omega arith;
      solved_left = omega arith;
      solved_chord = omega arith;
    }

-- ---- the section says what the position says -----------------------------------------------------------------------------------------------

module _ (s : List ℕ) (p : Position) (m : Small p) where
  byte_behind : (k : ℕ) → byte_at (s ++ claims_of p) (length s + k) ≡ byte_at (claims_of p) k
  byte_behind k = get_or-append-add s (claims_of p) k 0

  -- four bytes of the section that are those of a number
  long_behind : (k n : ℕ) → n < 4294967296 → byte_at (claims_of p) k ≡ n % 256 → byte_at (claims_of p) (k + 1) ≡ n / 256 % 256
      → byte_at (claims_of p) (k + 2) ≡ n / 65536 % 256 → byte_at (claims_of p) (k + 3) ≡ n / 16777216 % 256 → (at : ℕ) → at ≡ length s + k
      → long_at (s ++ claims_of p) at ≡ n
  long_behind k n h a b c d at e =
      let place : (j : ℕ) → at + j ≡ length s + (k + j) = λ j. omega arith in
      let first : n % 256 ≡ byte_at (s ++ claims_of p) at = sym (ap (byte_at (s ++ claims_of p)) e ∙ byte_behind k ∙ a) in
      let second : n / 256 % 256 ≡ byte_at (s ++ claims_of p) (at + 1) = sym (ap (byte_at (s ++ claims_of p)) (place 1) ∙ byte_behind (k + 1) ∙ b) in
      let third : n / 65536 % 256 ≡ byte_at (s ++ claims_of p) (at + 2) = sym (ap (byte_at (s ++ claims_of p)) (place 2) ∙ byte_behind (k + 2) ∙ c) in
      let fourth : n / 16777216 % 256 ≡ byte_at (s ++ claims_of p) (at + 3) = sym (ap (byte_at (s ++ claims_of p)) (place 3) ∙ byte_behind (k + 3) ∙ d) in
      sym (long_made (s ++ claims_of p) at first second third fourth) ∙ four_back n h

  count_behind : (i n : ℕ) → i < 9 → n < 4294967296 → byte_at (claims_of p) (1 + 4 * i) ≡ n % 256 → byte_at (claims_of p) (1 + 4 * i + 1) ≡ n / 256 % 256
      → byte_at (claims_of p) (1 + 4 * i + 2) ≡ n / 65536 % 256 → byte_at (claims_of p) (1 + 4 * i + 3) ≡ n / 16777216 % 256
      → claim_at (s ++ claims_of p) (length s) i ≡ n
  count_behind i n l h a b c d =
      sym (claim_count (s ++ claims_of p) (length s) i l) ∙ long_behind (1 + 4 * i) n h a b c d (length s + 1 + 4 * i) (omega arith)

  pub section_says : (i : ℕ) → i < 10 → claim_at (s ++ claims_of p) (length s) i ≡ get_or (ten_values p) i 0
  unfolding claims_of fours
  section_says zero h = count_behind 0 p.counts.left (omega arith) m.left refl refl refl refl
  section_says (suc zero) h = count_behind 1 p.counts.right (omega arith) m.right refl refl refl refl
  section_says (suc (suc zero)) h = count_behind 2 p.counts.double (omega arith) m.double refl refl refl refl
  section_says (suc (suc (suc zero))) h = count_behind 3 p.counts.lce (omega arith) m.lce refl refl refl refl
  section_says (suc (suc (suc (suc zero)))) h = count_behind 4 p.secrets.rce (omega arith) m.rce refl refl refl refl
  section_says (suc (suc (suc (suc (suc zero))))) h = count_behind 5 p.counts.dce (omega arith) m.dce refl refl refl refl
  section_says (suc (suc (suc (suc (suc (suc zero)))))) h = count_behind 6 p.counts.flag (omega arith) m.flag refl refl refl refl
  section_says (suc (suc (suc (suc (suc (suc (suc zero))))))) h = count_behind 7 p.secrets.solved_left (omega arith) m.solved_left refl refl refl refl
  section_says (suc (suc (suc (suc (suc (suc (suc (suc zero)))))))) h = count_behind 8 p.secrets.solved_chord (omega arith) m.solved_chord refl refl refl refl
  section_says (suc (suc (suc (suc (suc (suc (suc (suc (suc zero))))))))) h = sym (claim_state (s ++ claims_of p) (length s) 9 (omega arith)) ∙ byte_behind 37
  section_says (suc (suc (suc (suc (suc (suc (suc (suc (suc (suc i)))))))))) h = absurd (omega arith)

  section_claimed : (book_of s).number ≡ 0 → ClaimedBook (s ++ claims_of p)
  unfolding claims_of fours
  section_claimed z = record { book = s; claims = drop 1 (claims_of p); accepted = z; long = refl; same = refl }

section_long : (p : Position) → length (claims_of p) ≡ 38
unfolding claims_of fours
section_long p = refl

-- ---- THE theorems --------------------------------------------------------------------------------------------------------------------------

-- what it writes a section onto: an accepted book, every event of it too
pub record Written (s : List ℕ) : Type 0 where
  pub book : (book_of s).number ≡ 0
  pub events : (book_last s (book_of s)).answer < 20
  pub text : s ++ claims_of (book_end s (book_of s)).position ≡ claim_text_of s

pub claim_means : (s : List ℕ) → claim_of s ≡ Accepted → Written s
claim_means s e = go (ℕ_discrete (book_of s).number 0) (dec_lt (book_last s (book_of s)).answer 20)
  where
    go : Dec ((book_of s).number ≡ 0) → Dec ((book_last s (book_of s)).answer < 20) → Written s
    go (yes z) (yes h) = record { book = z; events = h; text = text_claimed s (ap verdict_number e) }
    go (yes z) (no h) = let q = claim_event s (book_of s) refl z (omega arith) in let x : ◌≡◌ {A = ℕ} 0 1 = cc in absurd (omega arith)
    go (no n) h = let q = claim_refused s (book_of s) refl n in let x : ◌≡◌ {A = ℕ} 0 1 = cc in absurd (omega arith)

module _ (s : List ℕ) (e : claim_of s ≡ Accepted) where
  position : Position
  position = (book_end s (book_of s)).position

  written : Written s
  written = claim_means s e

  small : Small position
  unfolding position
  small = lawful_small (book_board s (book_of s)) (book_end s (book_of s)) (end_lawful s (book_of s) refl written.book)

  vouched : Vouched (s ++ claims_of position)
  unfolding position section_claimed
  vouched =
      record {
        claimed = section_claimed s position small written.book;
        events = accepted_events s written.book written.events;
        claims = section_says s position small;
      }

  -- the checker accepts every book that the second program writes
  pub claimed_accepted : check_of (claim_text_of s) ≡ Accepted
  unfolding position
  claimed_accepted = ap check_of (sym written.text) ∙ vouched_accepted (s ++ claims_of position) vouched

  -- it begins with the book, byte for byte, and has 38 bytes more
  pub claimed_prefix : take (length s) (claim_text_of s) ≡ s
  claimed_prefix = ap (take (length s)) (sym written.text) ∙ take_at s (claims_of (book_end s (book_of s)).position) (length s) refl

  pub claimed_length : length (claim_text_of s) ≡ length s + 38
  claimed_length =
      ap length (sym written.text) ∙ length-append s (claims_of (book_end s (book_of s)).position)
      ∙ ap (λ (n : ℕ). length s + n) (section_long (book_end s (book_of s)).position)

  refused_there : book_of (claim_text_of s) ≡ refused_book 43 (length s)
  refused_there =
      ap book_of (sym written.text)
      ∙ more_refused s (claims_of (book_end s (book_of s)).position) written.book (omega (arith, section_long (book_end s (book_of s)).position))

  -- `replay` refuses it at the book's end
  pub replay_43 : printout_of (claim_text_of s) ≡ refused_text 43 (length s)
  unfolding printout_of
  replay_43 = ap (printout_by (claim_text_of s)) refused_there ∙ printout_refused (claim_text_of s) (refused_book 43 (length s)) (λ z. omega arith)

  -- and so does the second program
  pub claimed_43 : claim_of (claim_text_of s) ≡ Refused 43 (length s)
  claimed_43 = sym (claim_refused (claim_text_of s) (refused_book 43 (length s)) (sym refused_there) (λ z. omega arith))
