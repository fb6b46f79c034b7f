-- What is lent: the flagged-before bits, and the work.
use Rattle.std.specs.Prelude.{Bool, List, ◌++◌, ℕ, ◌+◌, ◌*◌, ◌/◌, ◌%◌, ◌^◌, eqb, get_or, set, drop, replicate}
use Rattle.std.specs.Int.Bits.{bit_or}

-- bit number n, lowest bit of a byte first
unfoldable pub bit_at : List ℕ → ℕ → Bool
bit_at bits n = eqb (get_or bits (n / 8) 0 / 2 ^ (n % 8) % 2) 1

-- the same bytes with bit number n set
unfoldable pub with_bit : List ℕ → ℕ → List ℕ
with_bit bits n = set bits (n / 8) (bit_or (get_or bits (n / 8) 0) (2 ^ (n % 8)))

-- ⌈cells/8⌉ bytes of bits
abbrev pub bit_bytes : ℕ → ℕ
bit_bytes cells = (cells + 7) / 8

-- work: at least 8 × cells + 8 numbers
abbrev pub work_room : ℕ → ℕ
work_room cells = 8 * cells + 8

-- after an accepted call the first 8 × cells + 8 are 0 and the rest untouched
unfoldable pub work_after : ℕ → List ℕ → List ℕ
work_after cells work = replicate (work_room cells) 0 ++ drop (work_room cells) work
