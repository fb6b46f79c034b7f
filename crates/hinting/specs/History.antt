-- The score over any row of calls, by its history and not by its machine. proofs/History.antt proves it.
use Rattle.std.specs.Prelude.{◌≡◌, Bool, true, false, not, ◌&&◌, ◌||◌, List, [], ◌∷◌, ℕ, zero, suc, ◌+◌, ◌<◌, ◌≤◌, ltb, leb, eqb, length, get_or}
use Rattle.rules.specs.declared.Place.TheVariants.{Nowhere}
use Rattle.rules.specs.Words.{pick, count, every}
use Rattle.rules.specs.declared.Hint.{Hint}
use Rattle.rules.specs.declared.Hint.TheVariants.{Cell, Nothing, Refused}
use Rattle.rules.specs.declared.Score.{Score}
use Rattle.rules.specs.Trainer.{hint_of, score, Call, question, report, call_of}

-- ---- the machine: the score after a row of calls -----------------------------------------------------------------------------------------

-- after the first n calls
unfoldable pub score_after : (ℕ → Call) → ℕ → Score → Score
score_after calls zero s = s
score_after calls (suc n) s = call_of (calls n) (score_after calls n s)

-- after a list of calls
unfoldable pub score_over : List Call → Score → Score
score_over [] s = s
score_over (c ∷ l) s = score_over l (call_of c s)

-- the n-th call of a list; past its end a report of 0, which changes nothing
abbrev pub listed : List Call → ℕ → Call
listed l n = get_or l n (report 0 0 0)

-- ---- the history -------------------------------------------------------------------------------------------------------------------------

abbrev pub is_taken : Hint → Bool
is_taken (Cell row column byRow byColumn) = true
is_taken Nothing = true
is_taken (Refused n) = false

abbrev pub is_cell : Hint → ℕ → ℕ → Bool
is_cell (Cell r c byRow byColumn) row column = eqb r row && eqb c column
is_cell Nothing row column = false
is_cell (Refused n) row column = false

-- a question that is not refused
abbrev pub asks : Call → Bool
asks (question R C shown) = is_taken (hint_of R C shown)
asks (report row column opened) = false

-- a report above 0
abbrev pub opens : Call → Bool
opens (question R C shown) = false
opens (report row column opened) = not (eqb opened 0)

-- a question that gave this cell
abbrev pub gave : Call → ℕ → ℕ → Bool
gave (question R C shown) row column = is_cell (hint_of R C shown) row column
gave (report r c opened) row column = false

-- of the calls before call n, none after call m is a question not refused or a report above 0
unfoldable pub latest : (ℕ → Call) → ℕ → ℕ → Bool
latest calls n m = every (λ k. leb k m || not (asks (calls k) || opens (calls k))) n

-- the latest question not refused before call n gave this cell, and no report above 0 came since
unfoldable pub alive : (ℕ → Call) → ℕ → ℕ → ℕ → Bool
alive calls n row column = not (every (λ m. not (gave (calls m) row column && latest calls n m)) n)

-- a report above 0 that points at such a cell
abbrev pub follows_by : Call → (ℕ → ℕ → Bool) → Bool
follows_by (question R C shown) lives = false
follows_by (report row column opened) lives = not (eqb opened 0) && lives row column

abbrev pub follows : (ℕ → Call) → ℕ → Bool
follows calls n = follows_by (calls n) (alive calls n)

-- the lesser of 65,535 and a number
abbrev pub at_most : ℕ → ℕ
at_most n = pick (ltb n 65535) n 65535

-- how many of the first n calls are questions not refused, and how many follow a hint
abbrev pub questions : (ℕ → Call) → ℕ → ℕ
questions calls n = count (λ k. asks (calls k)) n

abbrev pub followings : (ℕ → Call) → ℕ → ℕ
followings calls n = count (follows calls) n

-- ---- the promise -------------------------------------------------------------------------------------------------------------------------

-- from counts a and f and no hint, the score after n calls
pub record Counted (calls : ℕ → Call) (n a f : ℕ) : Type 0 where
  pub asked : (score_after calls n (score a f Nowhere)).asked ≡ at_most (a + questions calls n)
  pub followed : (score_after calls n (score a f Nowhere)).followed ≡ at_most (f + followings calls n)
  pub fewer : f ≤ a → (score_after calls n (score a f Nowhere)).followed ≤ (score_after calls n (score a f Nowhere)).asked

-- over any row of calls
abbrev pub HistoryCounts : Type 0
HistoryCounts = (calls : ℕ → Call) (n a f : ℕ) → a ≤ 65535 → f ≤ 65535 → Counted calls n a f

-- a list of calls, one after the other, is such a row
abbrev pub ListCounts : Type 0
ListCounts = (l : List Call) (s : Score) → score_over l s ≡ score_after (listed l) (length l) s

-- what `alive` says: a call before gave the cell, and none since was a question not refused or a report above 0
pub record Alive (calls : ℕ → Call) (n row column : ℕ) : Type 0 where
  pub call : ℕ
  pub before : call < n
  pub gives : gave (calls call) row column ≡ true
  pub unasked : (k : ℕ) → call < k → k < n → asks (calls k) ≡ false
  pub unopened : (k : ℕ) → call < k → k < n → opens (calls k) ≡ false

pub record AliveMeans : Type 0 where
  pub means : (calls : ℕ → Call) (n row column : ℕ) → alive calls n row column ≡ true → Alive calls n row column
  pub found : (calls : ℕ → Call) (n row column : ℕ) → Alive calls n row column → alive calls n row column ≡ true
