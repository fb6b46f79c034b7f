-- What it means that a book's claims are right, in words that do not speak of a verdict.
use Rattle.std.specs.Prelude.{◌≡◌, List, [], ◌∷◌, ◌++◌, ℕ, suc, ◌+◌, ◌<◌, ◌≤◌, length, get_or, ℤ}
use Rattle.rules.specs.Clicks.{Desk}
use Rattle.rules.specs.Step.{step_on}
use Rattle.rules.specs.Book.{book_of, events_of}
use Rattle.rules.specs.Printout.{book_board, book_desk, book_end}
use Rattle.rules.specs.Claims.{claim_at, ten_values}

-- every event of a row is accepted, one after the other
pub data AllAccepted (B : List ℤ) : List ℕ → Desk → Type 0 where
  none : {d : Desk} → AllAccepted B [] d
  next : {code r c : ℕ} {es : List ℕ} {d : Desk} → (step_on B code r c d).answer < 20 → AllAccepted B es (step_on B code r c d).desk
      → AllAccepted B (code ∷ r ∷ c ∷ es) d

-- event number n of a row, from 1, is refused, and each before it is accepted
pub data FirstRefused (B : List ℤ) : List ℕ → Desk → ℕ → Type 0 where
  here : {code r c : ℕ} {es : List ℕ} {d : Desk} → 20 ≤ (step_on B code r c d).answer → FirstRefused B (code ∷ r ∷ c ∷ es) d 1
  later : {code r c : ℕ} {es : List ℕ} {d : Desk} {n : ℕ} → (step_on B code r c d).answer < 20 → FirstRefused B es (step_on B code r c d).desk n
      → FirstRefused B (code ∷ r ∷ c ∷ es) d (suc n)

-- a book, the count byte 9, and 37 bytes of claims
pub record ClaimedBook (s : List ℕ) : Type 0 where
  pub book : List ℕ
  pub claims : List ℕ
  pub accepted : (book_of book).number ≡ 0
  pub long : length claims ≡ 37
  pub same : s ≡ book ++ (9 ∷ claims)

-- the events of a book by itself are all accepted
abbrev pub EventsAccepted : List ℕ → Type 0
EventsAccepted book = AllAccepted (book_board book (book_of book)) (events_of book (book_of book)) (book_desk book (book_of book))

-- what the game of a book by itself says to claim number i, from 0: the nine counts as in the printout, then the game state
abbrev pub value_of : List ℕ → ℕ → ℕ
value_of book i = get_or (ten_values (book_end book (book_of book)).position) i 0

-- a book with claims whose events are all accepted, and whose ten claims are what its game says
pub record Vouched (s : List ℕ) : Type 0 where
  pub claimed : ClaimedBook s
  pub events : EventsAccepted claimed.book
  pub claims : (i : ℕ) → i < 10 → claim_at s (length claimed.book) i ≡ value_of claimed.book i

-- a book with claims whose event number n is the first that is refused
pub record Stopped (s : List ℕ) (n : ℕ) : Type 0 where
  pub claimed : ClaimedBook s
  pub first : FirstRefused (book_board claimed.book (book_of claimed.book)) (events_of claimed.book (book_of claimed.book)) (book_desk claimed.book (book_of claimed.book)) n

-- a book with claims whose events are all accepted, and whose claim number n, from 1, is the first that differs, with both values
pub record Differs (s : List ℕ) (n says is : ℕ) : Type 0 where
  pub claimed : ClaimedBook s
  pub events : EventsAccepted claimed.book
  pub index : ℕ
  pub number : n ≡ index + 1
  pub inside : index < 10
  pub said : says ≡ claim_at s (length claimed.book) index
  pub game : is ≡ value_of claimed.book index
  pub differs : says ≡ is → ⊥
  pub before : (i : ℕ) → i < index → claim_at s (length claimed.book) i ≡ value_of claimed.book i
