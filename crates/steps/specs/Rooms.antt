-- The rooms that hold whatever a step lends.
use Rattle.std.specs.Prelude.{◌≡◌, List, ℕ, ℤ, length}

-- room for every length of two bytes, and for the longest line
pub record Rooms (bytes : List ℕ) (mines : List ℤ) (shown bits work out : List ℕ) : Type 0 where
  pub byte : 65536 ≡ length bytes
  pub mine : 65536 ≡ length mines
  pub cell : 65536 ≡ length shown
  pub flag : 65536 ≡ length bits
  pub room : 65536 ≡ length work
  pub text : 524544 ≡ length out
