-- `lawful::byte_lawful` meets its contract: a byte that is 0 has no bit; else the bits passed are each clear or that of a mine.
use mathlib.Core.Path.{◌≡◌}
use Prim.Native.Nat.{◌+◌, ◌*◌}
use Rattle.rules.specs.Words.{every}
use Rattle.lawful.specs.Parts.{bit_lawful}
use Rattle.lawful.proofs.byte_lawful.Given as goal

abbrev pub invariant-loop-k : goal.invariant-loop-k
invariant-loop-k l = l.all ≡ every (λ j. bit_lawful l.mines l.bits (8 * l.at + j)) l.k
