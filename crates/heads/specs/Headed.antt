-- What stands before the cells as the code hands it back: rows and columns with the place after them, or the first refusal.
use Rattle.std.specs.Prelude.{◌≡◌, true, List, ℕ, drop, Result, Ok, Err}
use Rattle.rules.specs.declared.Refusal.{Refusal}
use Rattle.rules.specs.Grid.{size_ok}
use Rattle.rules.specs.Refusals.{refusal_number}
use Rattle.rules.specs.Picture.{rows_of, columns_of}
use Rattle.heads.specs.declared.Head.{Head}

-- a head of the bytes s without a fault: the chain of refusals up to here is passed, its size is one of ours, and `after` follows
pub record Passed (s : List ℕ) (chain : ℕ → ℕ) (after : List ℕ) (h : Head) : Type 0 where
  pub refusal : (rest : ℕ) → chain rest ≡ rest
  pub rows : h.rows ≡ rows_of s
  pub columns : h.columns ≡ columns_of s
  pub size : size_ok (rows_of s) (columns_of s) ≡ true
  pub rest : drop h.at s ≡ after

-- the head of the bytes s: passed, or the chain of refusals up to here comes to its number, whatever follows
abbrev pub Headed : List ℕ → (ℕ → ℕ) → List ℕ → Result Head Refusal → Type 0
Headed s chain after (Ok h) = Passed s chain after h
Headed s chain after (Err e) = (rest : ℕ) → chain rest ≡ refusal_number e
