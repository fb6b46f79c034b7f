-- `board::step_flow` meets its contract.
use mathlib.Core.Path.{refl, ◌∙◌, sym}
use Rattle.rules.specs.Clicks.{desk}
use Rattle.refusals.proofs.Faults.{flow_placeable}
use Rattle.board.proofs.Flowing.{flow_unfit, flow_first, flow_done, first_large, any_accepted_lem, flow_settings, flow_room, flow_kept, flow_whole}
use Rattle.cells.proofs.Refused.{never_0}
use Rattle.board.proofs.step_flow.Goals as goal

pub refuse_by-requires : goal.refuse_by-requires
refuse_by-requires c = flow_placeable _ _ _ _ _ c.in-Err.ensures

pub returns-in-Err : goal.returns-in-Err
returns-in-Err c = flow_unfit _ c.args.events.now c.args.p _ _ _ _ c.in-Err.ensures _ (never_0 _) c.refuse_by.ensures

pub returns-in-Err-first_refusal : goal.returns-in-Err-first_refusal
returns-in-Err-first_refusal c = flow_first _ c.args.events.now c.args.p _ _ _ _ c.in_default.ensures _ _ refl (first_large c.args.mines.now c.args.events.now (desk c.args.p c.args.shown.now c.args.bits.now) _ (c.in-Err-first_refusal.ensures _) (never_0 _)).0 (first_large c.args.mines.now c.args.events.now (desk c.args.p c.args.shown.now c.args.bits.now) _ (c.in-Err-first_refusal.ensures _) (never_0 _)).1 (never_0 _) c.refused.ensures

pub blank-requires : goal.blank-requires
blank-requires c = flow_room _ c.args.events.now (desk c.args.p c.args.shown.now c.args.bits.now) _ _ c.in_default.ensures refl

pub flow-o-requires : goal.flow-o-requires
flow-o-requires c = record { lawful_at = flow_kept _ c.args.events.now (desk c.args.p c.args.shown.now c.args.bits.now) _ _ c.in_default.ensures refl; blank = c.blank.ensures.blank; events_len = flow_whole _ c.args.events.now (desk c.args.p c.args.shown.now c.args.bits.now) _ _ c.in_default.ensures refl }

pub returns : goal.returns
returns c = let d = desk c.args.p c.args.shown.now c.args.bits.now in
    flow_done _ c.args.events.now c.args.p _ _ _ _ c.in_default.ensures _ _ _ _ _ _ _ refl c.flow-o.ensures.outcome
    (any_accepted_lem _ c.args.events.now d (flow_whole _ c.args.events.now d _ _ c.in_default.ensures refl) (sym (c.in_default-first_refusal.ensures _)))
    (c.flow-o.ensures.same ∙ c.blank.ensures.cleared)
    (flow_settings _ c.args.events.now c.args.p _ _ _ _ _ _ (flow_kept _ c.args.events.now d _ _ c.in_default.ensures refl) c.flow-o.ensures.outcome)
    c.flow_number-v.ensures c.answer.ensures
