-- `flows::moves` meets its contract.
use borrow.Author.Tests.{not-false}
use mathlib.Core.Bool.{not}
use mathlib.Core.Path.{◌≡◌, refl, sym, ap, subst, ◌∙◌}
use Prim.Native.Nat.{ℕ}
use native.Mathlib.Omega.{arith}
use Rattle.flows.specs.Runs.{Moves}
use Rattle.flows.proofs.Flows.{event_left}
use Rattle.flows.proofs.Runs.{moves_none, moves_more}
use Rattle.flows.proofs.moves.Goals as goal

pub loop-n-init : goal.loop-n-init
loop-n-init c = moves_none _ _ _ c.requires.0

pub overflow_mul-at : goal.overflow_mul-at
overflow_mul-at c = omega (arith, c.well_formed, c.loop-n.invariant.room)

pub overflow_add-at : goal.overflow_add-at
overflow_add-at c = omega (arith, c.well_formed, c.loop-n.invariant.room)

pub returns-then-events-at : goal.returns-then-events-at
returns-then-events-at c = (c.loop-n.invariant, omega arith)

pub is_move-requires : goal.is_move-requires
is_move-requires c = event_left _ _ c.requires.2 (omega arith) c.if-events-at.false

pub returns-then-not-is_move : goal.returns-then-not-is_move
returns-then-not-is_move c = (c.loop-n.invariant, omega arith)

pub loop-n-preserved : goal.loop-n-preserved
loop-n-preserved c =
    moves_more _ _ _ _ _ refl (event_left _ _ c.requires.2 (omega arith) c.if-events-at.false) c.loop-n.invariant (sym c.is_move.ensures ∙ not-false _ (ap not c.if-not-is_move.false))

pub returns : goal.returns
returns c =
    let e : c.loop-n.n ≡ c.args.most = omega arith in
    (subst (λ (n : ℕ). Moves c.args.s c.args.events.now c.args.from n) e c.loop-n.invariant, omega arith)
