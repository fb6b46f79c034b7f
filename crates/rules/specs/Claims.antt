-- Claims: the fourth section that a visiting book may carry, the checker's verdict on it, and the second program, which writes it.
use Rattle.std.specs.Prelude.{◌≡◌, Bool, true, false, List, [], ◌∷◌, ◌++◌, ℕ, ◌+◌, ◌*◌, ◌/◌, ◌%◌, ltb, leb, eqb, length, get_or, replicate}
use Rattle.rules.specs.declared.Position.{Position}
use Rattle.rules.specs.declared.Book.{Book}
use Rattle.rules.specs.declared.Verdict.{Verdict}
use Rattle.rules.specs.declared.Verdict.TheVariants.{Accepted, Refused, EventRefused, NotEnded, ClaimDiffers}
use Rattle.rules.specs.declared.Claim.{Claim}
use Rattle.rules.specs.declared.GameState.{GameState}
use Rattle.rules.specs.declared.GameState.TheVariants.{Ready, Playing, Win, Loss, PreFlaging}
use Rattle.rules.specs.Words.{pick, first_not}
use Rattle.rules.specs.States.{game_number}
use Rattle.rules.specs.Clicks.{Play, done}
use Rattle.rules.specs.Calls.{last_play}
use Rattle.rules.specs.Book.{byte_at, word_at, or_else, reaches, sections_of, events_end, book_ends, book_of}
use Rattle.rules.specs.Printout.{spaced, word_refused, word_at_place, nine_counts, book_desk, book_plays, book_end}

-- ---- the verdict -----------------------------------------------------------------------------------------------------------------------

-- its number: 0 accepted; a refusal of the bytes has its own; 81 an event refused, 82 the game not ended, 83 a claim differs
abbrev pub verdict_number : Verdict → ℕ
verdict_number Accepted = 0
verdict_number (Refused n place) = n
verdict_number (EventRefused event) = 81
verdict_number NotEnded = 82
verdict_number (ClaimDiffers claim says is) = 83

-- the values beside it: the byte place; the event's number; the claim's number with what it says and what the game says
abbrev pub verdict_values : Verdict → List ℕ
verdict_values Accepted = []
verdict_values (Refused n place) = place ∷ []
verdict_values (EventRefused event) = event ∷ []
verdict_values NotEnded = []
verdict_values (ClaimDiffers claim says is) = claim ∷ says ∷ is ∷ []

-- ---- the section -----------------------------------------------------------------------------------------------------------------------

-- after the events: the count byte 9, the nine counts in four bytes each, one byte of game state; 38 bytes.
-- 40: the bytes end; 80: the count is not 9, as soon as it is read; 43: bytes after the claims
unfoldable pub claims_section : List ℕ → ℕ → Book → Book
claims_section s at b =
    reaches s (at + 1)
    (or_else 80 at (eqb (byte_at s at) 9)
    (reaches s (at + 38)
    (book_ends s (at + 38) b)))

-- a book with claims: the book's own refusals up to its last event, then those of the claims
unfoldable pub claimed_book_of : List ℕ → Book
claimed_book_of s = pick (eqb (sections_of s).number 0) (claims_section s (events_end (sections_of s)) (sections_of s)) (sections_of s)

-- four bytes, low byte first
abbrev pub long_at : List ℕ → ℕ → ℕ
long_at s at = word_at s at + 65536 * word_at s (at + 2)

-- claim number i, from 0, of the section at a place: the nine counts as in the printout, then the game state
unfoldable pub claim_at : List ℕ → ℕ → ℕ → ℕ
claim_at s at i = pick (ltb i 9) (long_at s (at + 1 + 4 * i)) (byte_at s (at + 37))

-- what the game says to them
abbrev pub ten_values : Position → List ℕ
ten_values p = nine_counts p ++ (game_number p.game ∷ [])

-- ---- the checker -----------------------------------------------------------------------------------------------------------------------

-- the last play of a book
abbrev pub book_last : List ℕ → Book → Play
book_last s b = last_play (done 0 (book_desk s b)) (book_plays s b)

-- 81: an event refused; the plays end with the first such, so that its number, from 1, is how many they are
unfoldable pub events_judged : List ℕ → Book → Verdict → Verdict
events_judged s b rest = pick (leb 20 (book_last s b).answer) (EventRefused (length (book_plays s b))) rest

abbrev pub agrees : List ℕ → ℕ → List ℕ → ℕ → Bool
agrees s at values i = eqb (claim_at s at i) (get_or values i 0)

-- claim number i, counted from 1 in the verdict; 10 stands for none
abbrev pub differing : List ℕ → ℕ → List ℕ → ℕ → Verdict
differing s at values i = pick (eqb i 10) Accepted (ClaimDiffers (i + 1) (claim_at s at i) (get_or values i 0))

-- 83: the first claim that differs from the ten values of the game, with both values
unfoldable pub claims_judged : List ℕ → ℕ → List ℕ → Verdict
claims_judged s at values = differing s at values (first_not (agrees s at values) 10)

unfoldable pub check_by : List ℕ → Book → Verdict
check_by s b =
    pick (eqb b.number 0)
    (events_judged s b (claims_judged s (events_end b) (ten_values (book_end s b).position)))
    (Refused b.number b.place)

-- THE checker's verdict: the bytes, then the events, then the claims
unfoldable pub check_of : List ℕ → Verdict
check_of s = check_by s (claimed_book_of s)

-- ---- the second program ----------------------------------------------------------------------------------------------------------------

-- Win or Loss
abbrev pub is_ended : GameState → Bool
is_ended Ready = false
is_ended Playing = false
is_ended Win = true
is_ended Loss = true
is_ended PreFlaging = false

unfoldable pub claim_by : List ℕ → Book → Verdict
claim_by s b =
    pick (eqb b.number 0)
    (events_judged s b (pick (is_ended (book_end s b).position.game) Accepted NotEnded))
    (Refused b.number b.place)

-- its verdict: a book without claims, whose section would be 43; 81; 82 the game not ended
unfoldable pub claim_of : List ℕ → Verdict
claim_of s = claim_by s (book_of s)

-- a number in four bytes, low byte first
abbrev pub four : ℕ → List ℕ
four n = n % 256 ∷ n / 256 % 256 ∷ n / 65536 % 256 ∷ n / 16777216 % 256 ∷ []

unfoldable pub fours : List ℕ → List ℕ
fours [] = []
fours (n ∷ ns) = four n ++ fours ns

-- the section that claims what a position says
unfoldable pub claims_of : Position → List ℕ
claims_of p = 9 ∷ (fours (nine_counts p) ++ (game_number p.game ∷ []))

-- ---- the promises of the two calls -----------------------------------------------------------------------------------------------------

abbrev pub CheckBookIs : List ℕ → Verdict → Type 0
CheckBookIs s r = r ≡ check_of s

-- a refusal comes with 38 zeros
abbrev pub unclaimed : Verdict → Claim
unclaimed v = record { verdict = v; section = replicate 38 0 }

-- the verdict, with the section of the game's end
unfoldable pub claim_book_of : List ℕ → Claim
claim_book_of s =
    pick (eqb (verdict_number (claim_of s)) 0)
    (record { verdict = claim_of s; section = claims_of (book_end s (book_of s)).position })
    (unclaimed (claim_of s))

abbrev pub ClaimBookIs : List ℕ → Claim → Type 0
ClaimBookIs s r = r ≡ claim_book_of s

-- ---- the two programs ------------------------------------------------------------------------------------------------------------------

-- the words accepted, event, claim, says and is
abbrev pub word_accepted : List ℕ
word_accepted = 97 ∷ 99 ∷ 99 ∷ 101 ∷ 112 ∷ 116 ∷ 101 ∷ 100 ∷ []

abbrev pub word_event : List ℕ
word_event = 32 ∷ 101 ∷ 118 ∷ 101 ∷ 110 ∷ 116 ∷ []

abbrev pub word_claim : List ℕ
word_claim = 32 ∷ 99 ∷ 108 ∷ 97 ∷ 105 ∷ 109 ∷ []

abbrev pub word_says : List ℕ
word_says = 32 ∷ 115 ∷ 97 ∷ 121 ∷ 115 ∷ []

abbrev pub word_is : List ℕ
word_is = 32 ∷ 105 ∷ 115 ∷ []

-- a word and a number within a line
abbrev pub told : List ℕ → ℕ → List ℕ
told word n = word ++ spaced (n ∷ [])

-- what stands behind a refusal's number: ` at P`, ` event E`, ` claim I says X is Y`
abbrev pub tail : Verdict → List ℕ
tail Accepted = []
tail (Refused n place) = told word_at_place place
tail (EventRefused event) = told word_event event
tail NotEnded = []
tail (ClaimDiffers claim says is) = told word_claim claim ++ (told word_says says ++ told word_is is)

-- what `checker` writes, the line of a verdict: `accepted`, or `refused N` and what stands behind it
unfoldable pub verdict_line : Verdict → List ℕ
verdict_line v = pick (eqb (verdict_number v) 0) word_accepted (told word_refused (verdict_number v) ++ tail v) ++ (10 ∷ [])

-- what `claimer` writes: the whole book with its claims, or the line of its refusal
unfoldable pub claim_text_of : List ℕ → List ℕ
claim_text_of s = pick (eqb (verdict_number (claim_of s)) 0) (s ++ claims_of (book_end s (book_of s)).position) (verdict_line (claim_of s))
