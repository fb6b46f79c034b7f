-- The bytes of a practice: two bytes of hints asked for and two of hints followed to start from, low byte first, with no hint alive; then calls to the
-- end. 0, rows, columns, two bytes of length and so many shown bytes is a question; 1, row, column and two bytes of opened sum is a report.
use Rattle.std.specs.Prelude.{◌≡◌, false, ◌&&◌, List, [], ◌∷◌, ℕ, ◌+◌, ◌*◌, leb, eqb, length, take, drop, get_or}
use Rattle.rules.specs.declared.Place.TheVariants.{Nowhere}
use Rattle.rules.specs.Words.{pick}
use Rattle.rules.specs.Printout.{word_line}
use Rattle.rules.specs.declared.Score.{Score}
use Rattle.rules.specs.declared.Advice.{Advice}
use Rattle.rules.specs.Trainer.{score, ask_of, report_of, hint_words}

-- a number of two bytes, low byte first
abbrev pub two_at : List ℕ → ℕ → ℕ
two_at s at = get_or s at 0 + 256 * get_or s (at + 1) 0

-- how many bytes the call at a place has; 0 where it is broken: cut off, or neither 0 nor 1
unfoldable pub call_length : List ℕ → ℕ → ℕ
call_length s at =
    pick (leb (at + 5) (length s))
    (pick (eqb (get_or s at 0) 1) 5
    (pick (eqb (get_or s at 0) 0 && leb (at + 5 + two_at s (at + 3)) (length s)) (5 + two_at s (at + 3)) 0))
    0

-- what a question at a place gives
abbrev pub advice_at : List ℕ → ℕ → Score → Advice
advice_at s at t = ask_of t (get_or s (at + 1) 0) (get_or s (at + 2) 0) (take (two_at s (at + 3)) (drop (at + 5) s))

-- the score after the call at a place
unfoldable pub score_at : List ℕ → ℕ → Score → Score
score_at s at t =
    pick (eqb (get_or s at 0) 1) (report_of t (get_or s (at + 1) 0) (get_or s (at + 2) 0) (two_at s (at + 3))) (advice_at s at t).score

-- the places of the calls, each with the score before it
pub data Reached (s : List ℕ) : ℕ → Score → Type 0 where
  start : Reached s 4 (score (two_at s 0) (two_at s 2) Nowhere)
  next : {at : ℕ} {t : Score} → Reached s at t → (call_length s at ≡ 0 → ⊥) → Reached s (at + call_length s at) (score_at s at t)

-- ---- what is printed -------------------------------------------------------------------------------------------------------------------

-- the words reported and broken
abbrev pub word_reported : List ℕ
word_reported = 114 ∷ 101 ∷ 112 ∷ 111 ∷ 114 ∷ 116 ∷ 101 ∷ 100 ∷ []

abbrev pub word_broken : List ℕ
word_broken = 98 ∷ 114 ∷ 111 ∷ 107 ∷ 101 ∷ 110 ∷ []

-- a line's words, then the counts
abbrev pub counts_line : List ℕ → Score → List ℕ
counts_line word t = word_line word (t.asked ∷ t.followed ∷ [])

-- the line of the call at a place: `cell R C by R C`, `nothing`, `refused N` or `reported`, then hints asked for and followed
unfoldable pub line_at : List ℕ → ℕ → Score → List ℕ
line_at s at t = counts_line (pick (eqb (get_or s at 0) 1) word_reported (hint_words (advice_at s at t).hint)) (score_at s at t)

-- broken bytes at the end are told in a line of their own, with the place where they begin
abbrev pub broken_line : ℕ → List ℕ
broken_line at = word_line word_broken (at ∷ [])

-- what may be handed over at a place: the line of its call, or of broken bytes
pub data Line (s text : List ℕ) : ℕ → Type 0 where
  call : {at : ℕ} {t : Score} → Reached s at t → (call_length s at ≡ 0 → ⊥) → text ≡ line_at s at t → Line s text at
  broken : {at : ℕ} {t : Score} → Reached s at t → call_length s at ≡ 0 → text ≡ broken_line at → Line s text at
  short : leb 4 (length s) ≡ false → text ≡ broken_line 0 → Line s text 0
