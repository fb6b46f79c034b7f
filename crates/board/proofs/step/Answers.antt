use mathlib.Core.Path.{◌∙◌, sym, refl}
use native.Mathlib.Omega.{arith}
use Rattle.rules.specs.Clicks.{desk}
use Rattle.rules.specs.Step.{plain_code}
use Rattle.keep.proofs.Step.{pointer_inside}
use Rattle.game.proofs.Steps.{step_bad, step_decoded, plain_resolved, resolved_asks, resolved_refused, resolved_played}
use Rattle.refusals.proofs.Faults.{lent_placeable}
use Rattle.board.proofs.Stepping.{step_unfit, step_heard, step_done, settings_kept, step_opened, played_small, refused_large, lent_room, lent_kept}
use Rattle.cells.proofs.Refused.{never_0}
use Rattle.board.proofs.step.Goals as goal

pub refuse_by-requires : goal.refuse_by-requires
refuse_by-requires c = lent_placeable _ _ _ _ c.in-Err.ensures

pub returns-in-Err : goal.returns-in-Err
returns-in-Err c = let a = c.args in step_unfit _ a.code a.row a.column a.p _ _ _ _ c.in-Err.ensures _ (never_0 _) c.refuse_by.ensures

pub returns-in_default-decode : goal.returns-in_default-decode
returns-in_default-decode c = let a = c.args in
    step_heard _ a.code a.row a.column a.p _ _ _ _ c.in_default.ensures 30 _ refl (step_bad _ (plain_code a.code) a.row a.column a.p _ _ _ c.decode.ensures c.in_default-decode.is) (omega arith) c.refused.ensures

pub returns-in-Err-refusal_of : goal.returns-in-Err-refusal_of
returns-in-Err-refusal_of c = let a = c.args in
    let k = c.in-Err-refusal_of.ensures a.bits.now in
    let e = plain_resolved a.code _ a.p a.shown.now a.bits.now _ c.plain_event-e.ensures in
    let s = resolved_refused a.mines.now (plain_code a.code) _ a.p a.shown.now a.bits.now _ e _ k (never_0 _) ∙ sym (step_decoded _ (plain_code a.code) a.row a.column a.p _ _ _ c.decode.ensures _ c.in-Some.is) in
    step_heard _ a.code a.row a.column a.p _ _ _ _ c.in_default.ensures _ _ refl s (refused_large c.plain_event-e.result (desk a.p a.shown.now a.bits.now) _ k (never_0 _)) c.refused-in-Err-refusal_of.ensures

pub blank-requires : goal.blank-requires
blank-requires c = let a = c.args in lent_room _ (desk a.p a.shown.now a.bits.now) _ _ c.in_default.ensures refl

pub play_event-o-requires : goal.play_event-o-requires
play_event-o-requires c = let a = c.args in
    let l = lent_kept _ (desk a.p a.shown.now a.bits.now) _ _ c.in_default.ensures refl in
    let i = pointer_inside a.p.settings a.row a.column _ (sym c.decode.ensures ∙ c.in-Some.is) in let whole = resolved_asks a.mines.now (plain_code a.code) _ a.p a.shown.now a.bits.now _ (plain_resolved a.code _ a.p a.shown.now a.bits.now _ c.plain_event-e.ensures) a.p _ refl l c.blank.ensures.blank i in record { lawful_at = whole.0; blank = whole.1.0; inside_of = whole.1.1 }

pub overflow_sub-opened : goal.overflow_sub-opened
overflow_sub-opened c = let a = c.args in
    let d = desk a.p a.shown.now a.bits.now in
    let k = c.in_default-refusal_of.ensures a.bits.now in
    let e = plain_resolved a.code _ a.p a.shown.now a.bits.now _ c.plain_event-e.ensures in
    let s = c.play_event-o.ensures.outcome ∙ sym (step_decoded _ (plain_code a.code) a.row a.column a.p _ _ _ c.decode.ensures _ c.in-Some.is ∙ resolved_played a.mines.now (plain_code a.code) _ a.p a.shown.now a.bits.now _ e _ k refl a.p refl) in
    (step_opened _ a.code a.row a.column a.p _ _ _ _ _ _ (lent_kept _ d _ _ c.in_default.ensures refl) s).less

pub shape_of-work : goal.shape_of-work
shape_of-work c = c.play_event-o.auto.work ∙ c.blank.auto.work

pub returns : goal.returns
returns c = let a = c.args in
    let d = desk a.p a.shown.now a.bits.now in
    let k = c.in_default-refusal_of.ensures a.bits.now in
    let l = lent_kept _ d _ _ c.in_default.ensures refl in
    let e = plain_resolved a.code _ a.p a.shown.now a.bits.now _ c.plain_event-e.ensures in
    let s = c.play_event-o.ensures.outcome ∙ sym (step_decoded _ (plain_code a.code) a.row a.column a.p _ _ _ c.decode.ensures _ c.in-Some.is ∙ resolved_played a.mines.now (plain_code a.code) _ a.p a.shown.now a.bits.now _ e _ k refl a.p refl) in
    step_done _ a.code a.row a.column a.p _ _ _ _ c.in_default.ensures _ _ _ _ _ _ _ refl s (played_small _ c.plain_event-e.result d _ _ c.play_event-o.ensures.outcome) (c.play_event-o.ensures.same ∙ c.blank.ensures.cleared)
    (settings_kept _ a.code a.row a.column a.p _ _ _ _ _ _ l s) (step_opened _ a.code a.row a.column a.p _ _ _ _ _ _ l s).by c.answer.ensures
