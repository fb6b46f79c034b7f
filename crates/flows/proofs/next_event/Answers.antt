-- `flows::next_event` meets its contract.
use mathlib.Core.Path.{◌∙◌, sym, refl, ap}
use Prim.Native.Nat.{◌+◌}
use native.Mathlib.Omega.{arith}
use borrow.Author.Tests.{leb-true, leb-false}
use lib.ListN.{get_or}
use Rattle.rules.specs.Step.{step_on}
use Rattle.keep.proofs.Step.{pointer_inside}
use Rattle.cells.proofs.Contracts.{leaves_by, leaves_here}
use Rattle.game.proofs.Steps.{step_bad, step_decoded, step_full}
use Rattle.flows.proofs.Briefs.{brief_played, brief_other, lawful_same, desk_same}
use Rattle.flows.proofs.next_event.Goals as goal

pub returns-in_default : goal.returns-in_default
returns-in_default c = let a = c.args in rw c.refused.ensures (leaves_here (step_bad a.mines.now (get_or a.events.now a.at 0) (get_or a.events.now (a.at + 1) 0) (get_or a.events.now (a.at + 2) 0) a.p a.shown.now a.bits.now _ c.decode.ensures c.in_default.is))

pub returns-then-is_full : goal.returns-then-is_full
returns-then-is_full c = let a = c.args in rw c.refused-then-is_full.ensures (leaves_here (step_full a.mines.now (get_or a.events.now a.at 0) _ a.p a.shown.now a.bits.now (leb-true 65535 a.p.events (sym c.is_full.ensures ∙ c.if-is_full.true)) ∙ sym (step_decoded a.mines.now (get_or a.events.now a.at 0) (get_or a.events.now (a.at + 1) 0) (get_or a.events.now (a.at + 2) 0) a.p a.shown.now a.bits.now _ c.decode.ensures _ c.in-Some.is)))

pub play_brief-requires : goal.play_brief-requires
play_brief-requires c = let a = c.args in record { lawful_at = c.requires.lawful_at; inside = (pointer_inside a.p.settings (get_or a.events.now (a.at + 1) 0) (get_or a.events.now (a.at + 2) 0) _ (sym c.decode.ensures ∙ c.in-Some.is)); events_bound = (leb-false 65535 a.p.events (sym c.is_full.ensures ∙ c.if-is_full.false)) }

pub overflow_add-n : goal.overflow_add-n
overflow_add-n c = omega arith

pub step_at-requires : goal.step_at-requires
step_at-requires c = let a = c.args in let e = brief_other a.mines.now (get_or a.events.now a.at 0) _ a.p a.shown.now a.bits.now c.play_brief.result c.play_brief.new.shown c.play_brief.new.bits c.play_brief.ensures c.in-None.is in record { lawful_at = lawful_same e.0 e.1 c.requires.lawful_at; blank = c.requires.blank; inside = (pointer_inside a.p.settings (get_or a.events.now (a.at + 1) 0) (get_or a.events.now (a.at + 2) 0) _ (sym c.decode.ensures ∙ c.in-Some.is)); events_bound = (leb-false 65535 a.p.events (sym c.is_full.ensures ∙ c.if-is_full.false)) }

pub returns-in-Some-play_brief : goal.returns-in-Some-play_brief
returns-in-Some-play_brief c = let a = c.args in record { outcome = brief_played a.mines.now (get_or a.events.now a.at 0) _ a.p a.shown.now a.bits.now c.play_brief.result c.play_brief.new.shown c.play_brief.new.bits c.play_brief.ensures _ _ c.in-Some-play_brief.is c.counted.ensures ∙ sym (step_decoded a.mines.now (get_or a.events.now a.at 0) (get_or a.events.now (a.at + 1) 0) (get_or a.events.now (a.at + 2) 0) a.p a.shown.now a.bits.now _ c.decode.ensures _ c.in-Some.is); same = refl }

pub returns-in-None : goal.returns-in-None
returns-in-None c = let a = c.args in let e = brief_other a.mines.now (get_or a.events.now a.at 0) _ a.p a.shown.now a.bits.now c.play_brief.result c.play_brief.new.shown c.play_brief.new.bits c.play_brief.ensures c.in-None.is in leaves_by (leaves_by c.step_at.ensures (step_decoded a.mines.now (get_or a.events.now a.at 0) (get_or a.events.now (a.at + 1) 0) (get_or a.events.now (a.at + 2) 0) a.p _ _ _ c.decode.ensures _ c.in-Some.is)) (ap (step_on a.mines.now (get_or a.events.now a.at 0) (get_or a.events.now (a.at + 1) 0) (get_or a.events.now (a.at + 2) 0)) (desk_same e.0 e.1 a.p))
