-- `passes::passes_after_flag` meets its contract: at each return the tests say which pass followed.
use mathlib.Core.Path.{sym, ◌∙◌}
use Rattle.cells.proofs.Contracts.{leaves_by, leaves_here}
use Rattle.chording.proofs.Playing.{is_over, is_on}
use Rattle.passes.proofs.Turns.{prepared_flaggable}
use Rattle.passes.proofs.After.{is_both, is_flag, neither, flag_over, flag_both, flag_alone, flag_none}
use Rattle.passes.proofs.passes_after_flag.Goals as goal

pub returns-then-ne : goal.returns-then-ne
returns-then-ne c = leaves_here (sym (flag_over _ _ (is_over _ _ c.ne.ensures c.if-ne.true)))

pub returns-in-13 : goal.returns-in-13
returns-in-13 c = leaves_by c.both_pass.ensures (flag_both _ _ (is_on _ _ c.ne.ensures c.if-ne.false) (is_both _ c.in-13.is))

pub flag_pass-requires : goal.flag_pass-requires
flag_pass-requires c = let whole = prepared_flaggable _ _ _ c.requires in record { flaggable = whole.0; shown_bound = whole.1 }

pub returns-in-12 : goal.returns-in-12
returns-in-12 c =
    let m = is_flag _ c.in-12.is in
    leaves_here (c.flag_pass.ensures ∙ sym (flag_alone _ _ (is_on _ _ c.ne.ensures c.if-ne.false) m.0 m.1))

pub returns-in_default : goal.returns-in_default
returns-in_default c =
    let not = c.in_default.in_default-own.rest in
    leaves_here (sym (flag_none _ _ (is_on _ _ c.ne.ensures c.if-ne.false) (neither _ 13 16 not.0.1) (neither _ 12 15 not.1)))
