-- The trainer: a hint on a shown board alone, the score of hints asked for and followed, and what is printed of a hint.
use Rattle.std.specs.Prelude.{◌≡◌, Bool, true, false, not, ◌&&◌, List, [], ◌∷◌, ◌++◌, ℕ, ◌+◌, ◌*◌, ◌/◌, ◌%◌, ltb, leb, eqb, get_or}
use Rattle.rules.specs.declared.Place.{Place}
use Rattle.rules.specs.declared.Place.TheVariants.{Nowhere, At}
use Rattle.rules.specs.declared.Book.{Book}
use Rattle.rules.specs.declared.Hint.{Hint}
use Rattle.rules.specs.declared.Hint.TheVariants.{Cell, Nothing, Refused}
use Rattle.rules.specs.declared.Score.{Score}
use Rattle.rules.specs.declared.Advice.{Advice}
use Rattle.rules.specs.Words.{pick, first_not}
use Rattle.rules.specs.Grid.{neighbour, around}
use Rattle.rules.specs.Opening.{closed_at}
use Rattle.rules.specs.Clicks.{flag_at}
use Rattle.rules.specs.Book.{book_of}
use Rattle.rules.specs.Printout.{spaced, word_refused, book_end, printout_of}
use Rattle.rules.specs.Picture.{shown_refusal}

-- ---- a hint ----------------------------------------------------------------------------------------------------------------------------

-- an open number 1 to 8 that has exactly that many flags around it; a wrong flag, 14, is none
unfoldable pub justifies : ℕ → ℕ → List ℕ → ℕ → Bool
justifies R C shown j = leb 1 (get_or shown j 0) && (leb (get_or shown j 0) 8 && eqb (around R C (flag_at shown) j) (get_or shown j 0))

-- a cell showing 10 is offered if some such number is beside it
unfoldable pub offered : ℕ → ℕ → List ℕ → ℕ → Bool
offered R C shown i = closed_at shown i && ltb 0 (around R C (justifies R C shown) i)

-- the first number below n that passes a test, or n
abbrev pub first : (ℕ → Bool) → ℕ → ℕ
first f n = first_not (λ i. not (f i)) n

-- the first such cell in row order; rows × columns if no such cell exists
abbrev pub offered_cell : ℕ → ℕ → List ℕ → ℕ
offered_cell R C shown = first (offered R C shown) (R * C)

-- which neighbour of a cell, in row order, is the first number that justifies it; 8 if none does
abbrev pub justifier : ℕ → ℕ → List ℕ → ℕ → ℕ
justifier R C shown i = first (λ k. justifies R C shown (neighbour R C i k)) 8

-- cell i is given by cell j, its number's
abbrev pub cell_by : ℕ → ℕ → ℕ → Hint
cell_by C i j = Cell (i / C) (i % C) (j / C) (j % C)

-- a cell is given with the first number that justifies it
abbrev pub hint_at : ℕ → ℕ → List ℕ → ℕ → Hint
hint_at R C shown i = cell_by C i (neighbour R C i (justifier R C shown i))

-- the first cell offered, or nothing to show
abbrev pub offer_of : ℕ → ℕ → List ℕ → Hint
offer_of R C shown = pick (ltb (offered_cell R C shown) (R * C)) (hint_at R C shown (offered_cell R C shown)) Nothing

unfoldable pub hint_by : ℕ → ℕ → ℕ → List ℕ → Hint
hint_by n R C shown = pick (eqb n 0) (offer_of R C shown) (Refused n)

-- A HINT; refusals: a wrong size 20, a wrong length 21, a shown value we never write 261
unfoldable pub hint_of : ℕ → ℕ → List ℕ → Hint
hint_of R C shown = hint_by (shown_refusal R C shown true) R C shown

-- the number of a hint: that of its refusal, or 0
abbrev pub hint_number : Hint → ℕ
hint_number (Cell row column byRow byColumn) = 0
hint_number Nothing = 0
hint_number (Refused n) = n

-- ---- the score -------------------------------------------------------------------------------------------------------------------------

abbrev pub score : ℕ → ℕ → Place → Score
score asked followed hint = record { asked = asked; followed = followed; hint = hint }

-- both counts stop at 65,535
abbrev pub one_more_of : ℕ → ℕ
one_more_of n = pick (ltb n 65535) (n + 1) 65535

-- a cell counts as asked for and replaces the hint before it; "nothing to show" counts as asked for and drops the hint before it;
-- a refused question changes nothing
abbrev pub after_hint : Hint → Score → Score
after_hint (Cell row column byRow byColumn) s = score (one_more_of s.asked) s.followed (At row column)
after_hint Nothing s = score (one_more_of s.asked) s.followed Nowhere
after_hint (Refused n) s = s

-- A QUESTION: the hint, and the score after it
abbrev pub ask_of : Score → ℕ → ℕ → List ℕ → Advice
ask_of s R C shown = record { hint = hint_of R C shown; score = after_hint (hint_of R C shown) s }

-- the hint lives, and its cell is the pointer's
abbrev pub points_at : Place → ℕ → ℕ → Bool
points_at Nowhere row column = false
points_at (At r c) row column = eqb r row && eqb c column

-- A REPORT of an event, its pointer and its opened sum: with a sum above 0 it counts as followed where it points at the hint's cell, and
-- spends the hint either way
unfoldable pub report_of : Score → ℕ → ℕ → ℕ → Score
report_of s row column opened =
    pick (eqb opened 0) s
    (score s.asked (pick (points_at s.hint row column) (one_more_of s.followed) s.followed) Nowhere)

-- ---- a row of calls --------------------------------------------------------------------------------------------------------------------

-- a question with its size and shown board, or a report with its pointer and its opened sum
pub data Call : Type 0 where
  question : ℕ → ℕ → List ℕ → Call
  report : ℕ → ℕ → ℕ → Call

-- the score after it
abbrev pub call_of : Call → Score → Score
call_of (question R C shown) s = (ask_of s R C shown).score
call_of (report row column opened) s = report_of s row column opened

-- ---- the promises of the three calls ---------------------------------------------------------------------------------------------------

abbrev pub HintIs : ℕ → ℕ → List ℕ → Hint → Type 0
HintIs rows columns shown r = r ≡ hint_of rows columns shown

abbrev pub AskIs : Score → ℕ → ℕ → List ℕ → Advice → Type 0
AskIs s rows columns shown r = r ≡ ask_of s rows columns shown

abbrev pub ReportIs : Score → ℕ → ℕ → ℕ → Score → Type 0
ReportIs s row column opened r = r ≡ report_of s row column opened

-- ---- what is printed of a hint ---------------------------------------------------------------------------------------------------------

-- the words cell, by and nothing
abbrev pub word_cell : List ℕ
word_cell = 99 ∷ 101 ∷ 108 ∷ 108 ∷ []

abbrev pub word_by : List ℕ
word_by = 32 ∷ 98 ∷ 121 ∷ []

abbrev pub word_nothing : List ℕ
word_nothing = 110 ∷ 111 ∷ 116 ∷ 104 ∷ 105 ∷ 110 ∷ 103 ∷ []

-- `cell R C by R C`, `nothing` or `refused N`
abbrev pub hint_words : Hint → List ℕ
hint_words (Cell row column byRow byColumn) = word_cell ++ (spaced (row ∷ column ∷ []) ++ (word_by ++ spaced (byRow ∷ byColumn ∷ [])))
hint_words Nothing = word_nothing
hint_words (Refused n) = word_refused ++ spaced (n ∷ [])

unfoldable pub book_hint_by : List ℕ → Book → List ℕ
book_hint_by s b =
    pick (eqb b.number 0) (hint_words (hint_of b.settings.rows b.settings.columns (book_end s b).shown) ++ (10 ∷ [])) (printout_of s)

-- what `hint` prints of a book: the hint for the last shown board; a refused book prints only `refused N at P`, its printout
unfoldable pub book_hint : List ℕ → List ℕ
book_hint s = book_hint_by s (book_of s)
