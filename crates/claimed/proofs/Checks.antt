-- THE theorems on the checker: what it accepts, and what its verdicts on events and claims mean.
use mathlib.Core.Path.{◌≡◌, ◌∙◌, sym, ap, ap₂, refl, subst}
use mathlib.Core.Bool.{Bool, true, false, true≢false}
use mathlib.Core.List.{List, [], ◌∷◌, ◌++◌}
use Prim.Native.Nat.{ℕ, suc, ◌+◌, ◌*◌, ◌%◌, ◌<◌, ◌≤◌}
use native.Mathlib.Omega.{arith}
use native.Mathlib.Decide.{ℕ_discrete, dec_lt}
use borrow.Author.Tests.{eq-eqb, eqb-true, le-leb}
use lib.Dec.{eqb}
use lib.ListN.{length, get_or, take, drop, length-append, length-drop}
use lib.Seq.{length-take-le, get_or_at}
use Rattle.rules.specs.declared.Book.{Book}
use Rattle.rules.specs.Words.{pick, every, first_not}
use Rattle.rules.specs.Clicks.{Play, done}
use Rattle.rules.specs.Book.{byte_at, sections_of, events_end, book_of, events_of}
use Rattle.rules.specs.Printout.{book_board, book_desk, book_plays, book_end}
use Rattle.cells.proofs.Words.{every_at, every_all}
use Rattle.cells.proofs.Firsts.{first_none, first_fails, first_end}
use Rattle.book.specs.Written.{form_of, Writable}
use Rattle.book.proofs.Writing.{accepted_writable}
use Rattle.book.proofs.Onward.{accepted_sections, accepted_ends, more_sections, more_ends}
use Rattle.rules.specs.declared.Verdict.{Verdict}
use Rattle.rules.specs.declared.Verdict.TheVariants.{Accepted, Refused, EventRefused, NotEnded, ClaimDiffers}
use Rattle.rules.specs.Claims.{claimed_book_of, claim_at, ten_values, book_last, agrees, differing, claims_judged, check_of}
use Rattle.claims.proofs.Behind.{Claimed, claimed_means, claimed_is, claimed_book_lem, claimed_split, plays_behind, last_behind}
use Rattle.claims.proofs.Order.{check_refused, check_event, check_claims}
use Rattle.claimed.specs.Vouched.{AllAccepted, FirstRefused, EventsAccepted, value_of, ClaimedBook, Vouched, Stopped, Differs}
use Rattle.claimed.proofs.Rows.{row_accepted, accepted_row, row_refused}

-- ---- the comparison ----------------------------------------------------------------------------------------------------------------------

module _ (s : List ℕ) (at : ℕ) (values : List ℕ) where
  -- the first that differs, or none
  pub data Judged : Verdict → Type 0 where
    alike : ((i : ℕ) → i < 10 → claim_at s at i ≡ get_or values i 0) → Judged Accepted
    unlike : (i : ℕ) → i < 10 → (claim_at s at i ≡ get_or values i 0 → ⊥) → ((j : ℕ) → j < i → claim_at s at j ≡ get_or values j 0)
        → Judged (ClaimDiffers (i + 1) (claim_at s at i) (get_or values i 0))

  agreeing : (n : ℕ) → every (agrees s at values) n ≡ true → (i : ℕ) → i < n → claim_at s at i ≡ get_or values i 0
  agreeing n e i h = eqb-true _ _ (every_at (agrees s at values) n e i h)

  pub judged_means : Judged (claims_judged s at values)
  unfolding claims_judged
  judged_means = go (every (agrees s at values) 10) refl
    where
      go : (t : Bool) → every (agrees s at values) 10 ≡ t → Judged (differing s at values (first_not (agrees s at values) 10))
      go true e = subst (λ (i : ℕ). Judged (differing s at values i)) (sym (first_none (agrees s at values) 10 e)) (alike (agreeing 10 e))
      go false e =
          let f = first_fails (agrees s at values) 10 e in
          let i : ℕ = first_not (agrees s at values) 10 in
          let not-ten : eqb i 10 ≡ false = first_end (agrees s at values) 10 ∙ e in
          subst (λ (t : Bool). Judged (pick t Accepted (ClaimDiffers (i + 1) (claim_at s at i) (get_or values i 0)))) (sym not-ten)
          (unlike i f.0 (λ q. true≢false (sym (eq-eqb _ _ q) ∙ f.2)) (agreeing i f.1))

  pub alike_judged : ((i : ℕ) → i < 10 → claim_at s at i ≡ get_or values i 0) → claims_judged s at values ≡ Accepted
  unfolding claims_judged
  alike_judged h = ap (differing s at values) (first_none (agrees s at values) 10 (every_all (agrees s at values) 10 (λ i k. eq-eqb _ _ (h i k))))

-- ---- a book with claims behind it ----------------------------------------------------------------------------------------------------------

whole_events : (s : List ℕ) → (book_of s).number ≡ 0 → length (events_of s (book_of s)) % 3 ≡ 0
whole_events s z = (accepted_writable s z).whole

module _ (book claims : List ℕ) (z : (book_of book).number ≡ 0) (long : length claims ≡ 37) where
  ends_is : events_end (book_of book) ≡ length book
  ends_is = ap events_end (accepted_sections book z) ∙ accepted_ends book z

  behind : Claimed (book ++ (9 ∷ claims)) (book_of book)
  behind =
      let end = ends_is in
      let all = length-append book (9 ∷ claims) in
      record {
        sections = sym (more_sections book (9 ∷ claims) z);
        right = z;
        nine = get_or_at book 9 claims 0 (events_end (book_of book)) (sym end);
        ends = omega arith;
      }

  reads_as : book_of book ≡ claimed_book_of (book ++ (9 ∷ claims))
  reads_as = claimed_is (book ++ (9 ∷ claims)) (book_of book) behind

  last_is : book_last (book ++ (9 ∷ claims)) (book_of book) ≡ book_last book (book_of book)
  last_is = last_behind book (9 ∷ claims)

  stops : 20 ≤ (book_last book (book_of book)).answer → EventRefused (length (book_plays book (book_of book))) ≡ check_of (book ++ (9 ∷ claims))
  stops h =
      ap (λ (l : List Play). EventRefused (length l)) (sym (plays_behind book (9 ∷ claims)))
      ∙ check_event (book ++ (9 ∷ claims)) (book_of book) reads_as z (rw last_is h)

  goes_on : (book_last book (book_of book)).answer < 20
      → claims_judged (book ++ (9 ∷ claims)) (length book) (ten_values (book_end book (book_of book)).position) ≡ check_of (book ++ (9 ∷ claims))
  goes_on h =
      ap₂ (λ (at : ℕ) (o : Play). claims_judged (book ++ (9 ∷ claims)) at (ten_values o.desk.position)) (sym ends_is) (sym last_is)
      ∙ check_claims (book ++ (9 ∷ claims)) (book_of book) reads_as z (rw last_is h)

-- the verdict on a book with claims: 81, or that of the comparison
pub data Checked (s : List ℕ) (c : ClaimedBook s) : Verdict → Type 0 where
  stopped : 20 ≤ (book_last c.book (book_of c.book)).answer → Checked s c (EventRefused (length (book_plays c.book (book_of c.book))))
  compared : {v : Verdict} → (book_last c.book (book_of c.book)).answer < 20
      → Judged s (length c.book) (ten_values (book_end c.book (book_of c.book)).position) v → Checked s c v

pub checked : (s : List ℕ) (c : ClaimedBook s) → Checked s c (check_of s)
checked s c = go (dec_lt (book_last c.book (book_of c.book)).answer 20)
  where
    go : Dec ((book_last c.book (book_of c.book)).answer < 20) → Checked s c (check_of s)
    go (yes h) =
        compared h
        (subst (Judged s (length c.book) (ten_values (book_end c.book (book_of c.book)).position))
        (ap (λ (t : List ℕ). claims_judged t (length c.book) (ten_values (book_end c.book (book_of c.book)).position)) c.same
        ∙ goes_on c.book c.claims c.accepted c.long h ∙ ap check_of (sym c.same))
        (judged_means s (length c.book) (ten_values (book_end c.book (book_of c.book)).position)))
    go (no h) = subst (Checked s c) (stops c.book c.claims c.accepted c.long (omega arith) ∙ ap check_of (sym c.same)) (stopped (omega arith))

pub accepted_events : (book : List ℕ) → (book_of book).number ≡ 0 → (book_last book (book_of book)).answer < 20 → EventsAccepted book
accepted_events book z h =
    row_accepted (book_board book (book_of book)) (events_of book (book_of book)) (done 0 (book_desk book (book_of book))) (whole_events book z) h

-- ---- what is no book with claims is refused at a place of its bytes ------------------------------------------------------------------------

pub data Read (s : List ℕ) : Type 0 where
  claimed : ClaimedBook s → Read s
  faulty : (n place : ℕ) → check_of s ≡ Refused n place → Read s

pub check_reads : (s : List ℕ) → Read s
check_reads s = go (ℕ_discrete (claimed_book_of s).number 0)
  where
    b : Book
    b = claimed_book_of s

    go : Dec (b.number ≡ 0) → Read s
    go (yes z) =
        let c = claimed_means s b refl z in
        let ends = c.ends in
        claimed (record {
          book = take (events_end b) s;
          claims = drop (events_end b + 1) s;
          accepted = sym (ap (λ (x : Book). x.number) (claimed_book_lem s b c)) ∙ z;
          long = simp length-drop (omega arith);
          same = claimed_split s b c;
        })
    go (no n) = faulty b.number b.place (sym (check_refused s b refl n))

-- ---- THE theorems --------------------------------------------------------------------------------------------------------------------------

-- accepted exactly if the bytes are a book with claims, every event is accepted, and all ten claims are the counts and the state of its game
pub check_accepts : (s : List ℕ) → check_of s ≡ Accepted → Vouched s
check_accepts s e = reading (check_reads s)
  where
    by : (c : ClaimedBook s) (v : Verdict) → Checked s c v → v ≡ Accepted → Vouched s
    by c v (stopped h) q = let x : ◌≡◌ {A = ℕ} 0 1 = cc in absurd (omega arith)
    by c v (compared h (alike all)) q = record { claimed = c; events = accepted_events c.book c.accepted h; claims = all }
    by c v (compared h (unlike i k d all)) q = let x : ◌≡◌ {A = ℕ} 0 1 = cc in absurd (omega arith)

    reading : Read s → Vouched s
    reading (claimed c) = by c (check_of s) (checked s c) e
    reading (faulty n place q) = let x : ◌≡◌ {A = ℕ} 0 1 = cc in absurd (omega arith)

pub vouched_accepted : (s : List ℕ) → Vouched s → check_of s ≡ Accepted
vouched_accepted s v =
    let c = v.claimed in
    let last = accepted_row (book_board c.book (book_of c.book)) v.events (done 0 (book_desk c.book (book_of c.book))) refl (omega arith) in
    ap check_of c.same ∙ sym (goes_on c.book c.claims c.accepted c.long last)
    ∙ ap (λ (t : List ℕ). claims_judged t (length c.book) (ten_values (book_end c.book (book_of c.book)).position)) (sym c.same)
    ∙ alike_judged s (length c.book) (ten_values (book_end c.book (book_of c.book)).position) v.claims

-- 81: its event is the first that is refused
pub first_event : (s : List ℕ) (n : ℕ) → check_of s ≡ EventRefused n → Stopped s n
first_event s n e = reading (check_reads s)
  where
    by : (c : ClaimedBook s) (v : Verdict) → Checked s c v → v ≡ EventRefused n → Stopped s n
    by c v (stopped h) q =
        let same : length (book_plays c.book (book_of c.book)) ≡ n = cc in
        record {
          claimed = c;
          first =
              subst (FirstRefused (book_board c.book (book_of c.book)) (events_of c.book (book_of c.book)) (book_desk c.book (book_of c.book))) same
              (row_refused (book_board c.book (book_of c.book)) (events_of c.book (book_of c.book)) (done 0 (book_desk c.book (book_of c.book))) (omega arith) h);
        }
    by c v (compared h (alike all)) q = let x : ◌≡◌ {A = ℕ} 0 1 = cc in absurd (omega arith)
    by c v (compared h (unlike i k d all)) q = let x : ◌≡◌ {A = ℕ} 0 1 = cc in absurd (omega arith)

    reading : Read s → Stopped s n
    reading (claimed c) = by c (check_of s) (checked s c) e
    reading (faulty m place q) = let x : ◌≡◌ {A = ℕ} 0 1 = cc in absurd (omega arith)

-- 83: its claim is the first that differs, with what it says and what the game says
pub first_claim : (s : List ℕ) (n says is : ℕ) → check_of s ≡ ClaimDiffers n says is → Differs s n says is
first_claim s n says is e = reading (check_reads s)
  where
    by : (c : ClaimedBook s) (v : Verdict) → Checked s c v → v ≡ ClaimDiffers n says is → Differs s n says is
    by c v (stopped h) q = let x : ◌≡◌ {A = ℕ} 0 1 = cc in absurd (omega arith)
    by c v (compared h (alike all)) q = let x : ◌≡◌ {A = ℕ} 0 1 = cc in absurd (omega arith)
    by c v (compared h (unlike i k d all)) q =
        let number : i + 1 ≡ n = cc in
        let said : claim_at s (length c.book) i ≡ says = cc in
        let game : value_of c.book i ≡ is = cc in
        record {
          claimed = c;
          events = accepted_events c.book c.accepted h;
          index = i;
          number = sym number;
          inside = k;
          said = sym said;
          game = sym game;
          differs = λ p. d (said ∙ p ∙ sym game);
          before = all;
        }

    reading : Read s → Differs s n says is
    reading (claimed c) = by c (check_of s) (checked s c) e
    reading (faulty m place q) = let x : ◌≡◌ {A = ℕ} 0 1 = cc in absurd (omega arith)
