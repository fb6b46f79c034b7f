-- `resolving::resolve` meets its contract.
use borrow.Author.Tests.{leb-true, leb-false}
use mathlib.Core.Path.{◌∙◌, refl, sym}
use Rattle.refusals.proofs.Faults.{check_placeable}
use Rattle.resolving.proofs.Resolving.{resolve_unfit, resolve_bad, resolve_full, resolve_done}
use Rattle.cells.proofs.Refused.{never_0}
use Rattle.resolving.proofs.resolve.Goals as goal

pub refuse_by-requires : goal.refuse_by-requires
refuse_by-requires c = check_placeable _ _ _ c.in-Err.ensures

pub returns-in-Err : goal.returns-in-Err
returns-in-Err c = let a = c.args in resolve_unfit _ a.code a.row a.column _ _ _ _ c.in-Err.ensures _ (never_0 _) c.refuse_by.ensures

pub returns-in_default-decode : goal.returns-in_default-decode
returns-in_default-decode c = let a = c.args in
    resolve_bad _ a.code a.row a.column _ _ _ _ c.in_default.ensures refl _ c.decode.ensures _ c.in_default-decode.is c.refused.ensures

pub returns-then-is_full : goal.returns-then-is_full
returns-then-is_full c = let a = c.args in
    resolve_full _ a.code a.row a.column _ _ _ _ c.in_default.ensures refl _ c.decode.ensures _ _ c.in-Some.is
    (leb-true _ _ (sym c.is_full.ensures ∙ c.if-is_full.true)) c.refused-then-is_full.ensures

pub returns : goal.returns
returns c = let a = c.args in
    resolve_done _ a.code a.row a.column _ _ _ _ c.in_default.ensures refl _ c.decode.ensures _ _ _ _ _ c.in-Some.is
    (leb-false _ _ (sym c.is_full.ensures ∙ c.if-is_full.false)) (c.from.ensures ∙ c.code_at-plain.ensures) c.flip-middle.ensures c.with_middle-q.ensures c.answer.ensures
