-- `lawful::bits_lawful` meets its contract: every bit of the bytes passed is clear or that of a mine.
use mathlib.Core.Path.{◌≡◌}
use mathlib.Core.Bool.{true}
use Prim.Native.Nat.{◌*◌}
use Rattle.rules.specs.Words.{every}
use Rattle.lawful.specs.Parts.{bit_lawful}
use Rattle.lawful.proofs.bits_lawful.Given as goal

abbrev pub invariant-loop-at : goal.invariant-loop-at
invariant-loop-at l = every (bit_lawful l.mines l.bits) (8 * l.at) ≡ true
