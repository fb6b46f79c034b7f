-- `flagging::flag_one` meets its contract: off the board, a closed cell, or another.
use native.Mathlib.Omega.{arith}
use borrow.Author.Tests.{ne_eqb}
use Rattle.cells.proofs.Face.{unseen}
use Rattle.flagging.proofs.Scan.{flags_one, flags_none}
use Rattle.flagging.proofs.flag_one.Goals as goal

pub returns-then-shown-q : goal.returns-then-shown-q
returns-then-shown-q c = let args = c.args in flags_none _ _ _ _ _ (unseen args.shown.now args.q 9 c.if-shown-q.true)

pub mark_mine-requires : goal.mark_mine-requires
mark_mine-requires c = record { cell_in_bounds = omega (arith, c.requires.shown_len); valued = c.requires.valued; cell_in_bounds_2 = omega (arith, c.requires.shown_len, c.requires.mines_len_bound) }

pub returns-then-shown-q-eq10 : goal.returns-then-shown-q-eq10
returns-then-shown-q-eq10 c = flags_one _ _ _ _ _ _ c.if-shown-q-eq10.true c.mark_mine.ensures.after

pub returns : goal.returns
returns c = flags_none _ _ _ _ _ (ne_eqb _ _ c.if-shown-q-eq10.false)
