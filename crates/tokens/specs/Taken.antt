-- A token as the code hands it back: numbers that are counted no further than 100, with places for the bytes after them, or a refusal.
use Rattle.std.specs.Prelude.{◌≡◌, Bool, List, ℕ, ltb, drop, Result, Ok, Err}
use Rattle.rules.specs.declared.Refusal.{Refusal}
use Rattle.rules.specs.Words.{pick}
use Rattle.rules.specs.Refusals.{refusal_number}
use Rattle.rules.specs.Picture.{Token, due, value_of, rest_of}
use Rattle.tokens.specs.declared.Number.{Number}

-- a number as it is counted: no further than 100, which no size, no maximum and no cell of ours has
unfoldable pub counted : ℕ → ℕ
counted n = pick (ltb n 100) n 100

-- a number that ends at a place, or none
abbrev pub ended_at : ℕ → Bool → ℕ → Refusal → Result Number Refusal
ended_at at ends value fault = pick ends (Ok (record { value = value; next = at })) (Err fault)

-- a token of s that is a number: it is refused with nothing; its value as counted, and the place after it
pub record Found (s : List ℕ) (t : Token) (r : Number) : Type 0 where
  pub there : (fault rest : ℕ) → due fault t rest ≡ rest
  pub value : r.value ≡ counted (value_of t)
  pub rest : drop r.next s ≡ rest_of t

-- a token of s: a number, or what it is refused with, whatever follows
abbrev pub Taken : List ℕ → ℕ → Token → Result Number Refusal → Type 0
Taken s fault t (Ok r) = Found s t r
Taken s fault t (Err e) = (rest : ℕ) → due fault t rest ≡ refusal_number e
