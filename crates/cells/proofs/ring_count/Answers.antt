-- `cells::ring_count` meets its contract. The loop: the places before this one are counted.
use mathlib.Core.Path.{refl, ap, sym, ◌∙◌}
use native.Mathlib.Omega.{arith}
use Rattle.rules.specs.Words.{bit, count}
use Rattle.cells.proofs.Grid.{ring_turn, ring_done}
use Rattle.cells.proofs.Words.{byte_bit}
use Rattle.cells.proofs.ring_count.Goals as goal

pub loop-k-init : goal.loop-k-init
unfolding count
loop-k-init g c = (omega arith, λ p h. refl)

pub loop-k-preserved : goal.loop-k-preserved
loop-k-preserved g c = (
  omega (arith, (byte_bit _ c.from-n.ensures).1),
  λ p h. ring_turn c.args.columns c.args.first p _ _ _ _ c.ring_at-q.ensures (c.loop-k.invariant.1 p h)
      ((byte_bit _ c.from-n.ensures).0 ∙ ap bit (h c.loop-k.k c.loop-k-test.true c.test.result (rw c.ring_at-q.ensures at c.test.ensures) ∙ ap p (sym c.ring_at-q.ensures))),
)

pub returns : goal.returns
returns g c = record { few = omega arith; counted = λ p h. ring_done c.args.columns c.args.first p _ _ (omega arith) (c.loop-k.invariant.1 p h) }
