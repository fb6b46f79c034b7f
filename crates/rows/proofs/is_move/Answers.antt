-- `rows::is_move` meets its contract.
use mathlib.Core.Path.{◌∙◌}
use Rattle.rows.proofs.Runs.{no_move, other_code, move_is}
use Rattle.rows.proofs.is_move.Goals as goal

pub returns-in_default : goal.returns-in_default
returns-in_default c = let a = c.args in no_move a.s a.section.now a.e c.nth.ensures c.in_default.is

pub returns-then-record-ne4 : goal.returns-then-record-ne4
returns-then-record-ne4 c = let a = c.args in other_code a.s a.section.now a.e c.nth.ensures _ c.in-Some.is c.if-record-ne4.true

pub returns : goal.returns
returns c = let a = c.args in c.is_some.ensures ∙ move_is a.s a.section.now a.e c.nth.ensures _ c.in-Some.is c.if-record-ne4.false _ c.decode.ensures
