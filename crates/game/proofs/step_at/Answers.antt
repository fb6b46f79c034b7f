-- `game::step_at` meets its contract.
use mathlib.Core.Path.{refl}
use Rattle.cells.proofs.Contracts.{leaves_by, leaves_here}
use Rattle.game.proofs.Steps.{resolved_asks, resolved_refused, resolved_played, not_full}
use Rattle.cells.proofs.Refused.{never_0}
use Rattle.game.proofs.step_at.Goals as goal

pub returns-in-Err : goal.returns-in-Err
returns-in-Err c = let a = c.args in rw c.refused.ensures (leaves_here (resolved_refused a.mines.now a.code a.x a.p a.shown.now a.bits.now c.resolve_at-h.result (c.resolve_at-h.ensures _ _) _ (not_full a.p _ _ c.requires.events_bound (c.in-Err.ensures _)) (never_0 c.in-Err.refusal)))

pub play_event-requires : goal.play_event-requires
play_event-requires c = let a = c.args in let whole = resolved_asks a.mines.now a.code a.x a.p a.shown.now a.bits.now c.resolve_at-h.result (c.resolve_at-h.ensures _ _) _ _ c.with_middle-q.ensures c.requires.lawful_at c.requires.blank c.requires.inside in record { lawful_at = whole.0; blank = whole.1.0; inside_of = whole.1.1 }

pub returns : goal.returns
returns c = let a = c.args in leaves_by c.play_event.ensures (resolved_played a.mines.now a.code a.x a.p a.shown.now a.bits.now c.resolve_at-h.result (c.resolve_at-h.ensures _ _) _ (not_full a.p _ _ c.requires.events_bound (c.in_default.ensures _)) refl _ c.with_middle-q.ensures)
