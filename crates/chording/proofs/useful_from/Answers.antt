-- `chording::useful_from` meets its contract. The loop: none before this column is useful.
use mathlib.Core.Path.{sym, ◌∙◌}
use Rattle.chording.proofs.Seeking.{sought_start, sought_turn, sought_found, sought_done}
use Rattle.chording.proofs.useful_from.Goals as goal

pub loop-column-init : goal.loop-column-init
loop-column-init c = sought_start _ _ _ c.requires.row_lt_rows.1

pub useful_at-requires : goal.useful_at-requires
useful_at-requires c = record { sized = c.requires.sized; row_lt_rows = (c.requires.row_lt_rows.0, c.loop-column-test.true); shown_len = c.requires.shown_len }

pub returns-then-useful_at : goal.returns-then-useful_at
returns-then-useful_at c = sought_found _ _ _ _ c.loop-column.invariant (sym c.useful_at.ensures ∙ c.if-useful_at.true)

pub loop-column-preserved : goal.loop-column-preserved
loop-column-preserved c = sought_turn _ _ _ _ c.loop-column.invariant c.loop-column-test.true (sym c.useful_at.ensures ∙ c.if-useful_at.false)

pub returns : goal.returns
returns c = sought_done _ _ _ _ c.loop-column.invariant c.loop-column-test.false
