-- `flows::is_move` meets its contract.
use mathlib.Core.Path.{refl, ◌∙◌}
use borrow.Author.Tests.{ne_eqb}
use Rattle.flows.proofs.Runs.{other_event, some_at, move_is}
use Rattle.flows.proofs.is_move.Goals as goal

pub returns-then-events-at-eq4 : goal.returns-then-events-at-eq4
returns-then-events-at-eq4 c = let a = c.args in c.is_some.ensures ∙ some_at _ ∙ move_is a.s a.events.now a.at _ _ c.if-events-at-eq4.true c.decode.ensures refl

pub returns-else-events-at-eq4 : goal.returns-else-events-at-eq4
returns-else-events-at-eq4 c = let a = c.args in ne_eqb _ _ c.if-events-at-eq4.false ∙ other_event a.s a.events.now a.at c.if-events-at-eq4.false
