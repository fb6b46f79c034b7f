-- `lawful::byte_lawful` meets its contract: a byte that is 0 has no bit; else the bits passed are each clear or that of a mine.
use mathlib.Core.Path.{refl, ap, ◌∙◌}
use Prim.Native.Nat.{◌+◌, ◌*◌}
use native.Mathlib.Omega.{arith}
use Rattle.rules.specs.Words.{every}
use Rattle.cells.proofs.Words.{every_more}
use Rattle.lawful.specs.Parts.{bit_lawful}
use Rattle.lawful.proofs.Scan.{byte_clear}
use Rattle.lawful.proofs.byte_lawful.Goals as goal

pub returns-then-bits-at-eq0 : goal.returns-then-bits-at-eq0
returns-then-bits-at-eq0 c = byte_clear _ _ _ c.if-bits-at-eq0.true

pub loop-k-init : goal.loop-k-init
unfolding every
loop-k-init c = refl

pub bit_lawful-fine-requires : goal.bit_lawful-fine-requires
bit_lawful-fine-requires c = record { n_bound = omega (arith, c.requires.at_in_bounds); valued = c.requires.valued }

pub loop-k-preserved : goal.loop-k-preserved
loop-k-preserved c = let a = c.args in every_more (λ j. bit_lawful a.mines.now a.bits.now (8 * a.at + j)) _ _ _ c.loop-k.invariant c.bit_lawful-fine.ensures

pub returns : goal.returns
returns c = let a = c.args in c.loop-k.invariant ∙ ap (every (λ j. bit_lawful a.mines.now a.bits.now (8 * a.at + j))) (omega arith)
