-- What the parts of the program answer: the length of a call, and a call told in its line.
use Rattle.std.specs.Prelude.{◌≡◌, List, ℕ, ◌+◌, ◌≤◌, length, get_or, Option, Some, None}
use Rattle.writing.specs.Put.{PutWithin}
use Rattle.rules.specs.declared.Score.{Score}
use Rattle.rules.specs.Trainer.{report_of, hint_words}
use Rattle.practice.specs.declared.Call.{Call}
use Rattle.practice.specs.declared.Call.TheVariants.{Question, Report}
use Rattle.practice.specs.declared.Told.{Told}
use Rattle.practice.specs.Practice.{two_at, call_length, advice_at, score_at, word_reported, counts_line, line_at}

-- how many bytes a call has
abbrev pub call_bytes : Call → ℕ
call_bytes (Question shown) = 5 + shown
call_bytes Report = 5

-- a question at a place, with so many shown bytes, that is not cut off
pub record Whole (s : List ℕ) (at shown : ℕ) : Type 0 where
  pub kind : get_or s at 0 ≡ 1 → ⊥
  pub count : shown ≡ two_at s (at + 3)
  pub board : at + 5 + shown ≤ length s

-- what the bytes at a place say of the call there
abbrev pub KindIs : List ℕ → ℕ → Call → Type 0
KindIs s at (Question shown) = Whole s at shown
KindIs s at Report = get_or s at 0 ≡ 1

-- the call at a place, within the bytes; the definition gives 0 where it is broken
pub record CallThere (s : List ℕ) (at : ℕ) (c : Call) : Type 0 where
  pub kind : KindIs s at c
  pub same : call_bytes c ≡ call_length s at
  pub within : at + call_bytes c ≤ length s

abbrev pub CallIs : List ℕ → ℕ → Option Call → Type 0
CallIs s at None = 0 ≡ call_length s at
CallIs s at (Some c) = CallThere s at c

pub record TellsQuestion (s : List ℕ) (at : ℕ) (t : Score) (out out' : List ℕ) (r : Told) : Type 0 where
  pub score : r.score ≡ (advice_at s at t).score
  pub line : PutWithin 74 (counts_line (hint_words (advice_at s at t).hint) (advice_at s at t).score) 0 out out' r.long

abbrev pub report_at : List ℕ → ℕ → Score → Score
report_at s at t = report_of t (get_or s (at + 1) 0) (get_or s (at + 2) 0) (two_at s (at + 3))

pub record TellsReport (s : List ℕ) (at : ℕ) (t : Score) (out out' : List ℕ) (r : Told) : Type 0 where
  pub score : r.score ≡ report_at s at t
  pub line : PutWithin 74 (counts_line word_reported (report_at s at t)) 0 out out' r.long

pub record Tells (s : List ℕ) (at : ℕ) (t : Score) (out out' : List ℕ) (r : Told) : Type 0 where
  pub score : r.score ≡ score_at s at t
  pub line : PutWithin 74 (line_at s at t) 0 out out' r.long
